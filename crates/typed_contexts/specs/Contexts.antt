-- Contexts by their variables and names: faces are passed over.
use Rattle.std.specs.Prelude.{◌-◌, ℕ, zero, suc, Option, None, Some}
use Rattle.std.specs.Option.{option_map}
use Rattle.trees.specs.Trees.{Tree}
use Rattle.trees.specs.Judgements.{Context, Nil, WithVar, WithName, WithFace, trees}
use Rattle.substitution.specs.Forms.{weaken}

-- the number of variables and names
abbrev pub depth_of : Context → ℕ
depth_of Nil = zero
depth_of (WithVar H A) = suc (depth_of H)
depth_of (WithName H) = suc (depth_of H)
depth_of (WithFace H p) = depth_of H

-- the context without the innermost so many
abbrev pub outside : ℕ → Context → Context
outside zero H = H
outside (suc n) Nil = Nil
outside (suc n) (WithVar H A) = outside n H
outside (suc n) (WithName H) = outside n H
outside (suc n) (WithFace H p) = outside (suc n) H

-- the outermost so many
abbrev pub at_depth : ℕ → Context → Context
at_depth n H = outside (depth_of H - n) H

-- the type of the variable of this index, weakened to the whole context
abbrev pub type_in : Context → ℕ → Option Tree
type_in Nil k = None
type_in (WithVar H A) zero = Some (weaken trees A)
type_in (WithVar H A) (suc k) = option_map (weaken trees) (type_in H k)
type_in (WithName H) zero = None
type_in (WithName H) (suc k) = option_map (weaken trees) (type_in H k)
type_in (WithFace H p) k = type_in H k
