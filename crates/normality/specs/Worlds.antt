-- What rows mean, what environments stand for, and what scopes fix.
use Rattle.std.specs.Prelude.{ℕ, List, [], ◌∷◌}
use Rattle.trees.specs.Trees.{Tree}
use Rattle.trees.specs.Things.{Meanings}
use Rattle.closures.specs.declared.closure.Closure.{Closure}
use Rattle.closures.specs.declared.environments.Environments.{Environments}
use Rattle.closures.specs.Environments.{Waiting}
use Rattle.closures.specs.Shown.{lists}
use Rattle.tree_frames.specs.declared.frames.Frame.{Frame}
use Rattle.tree_frames.specs.Frames.{tree_in, frame_trees}
use Rattle.fixed_names.specs.declared.scopes.Scope.{Scope}
use Rattle.fixed_names.specs.declared.scopes.Scopes.{Scopes}
use Rattle.fixed_names.specs.Fixed.{Fixed, none_fixed, fix}
use Rattle.fixed_names.specs.Scopes.{fixed_in}
use Rattle.fixed_names.specs.Shown.{fixed_by}

pub record World : Type 0 where
  pub f : Meanings
  pub known : List (List Waiting)
  pub fixed : List Fixed

abbrev pub at : Meanings → List (List Waiting) → List Fixed → World
at f known fixed = record { f = f; known = known; fixed = fixed }

abbrev pub world : Meanings → Environments → Scopes → World
world f environments scopes = at f (lists environments) (fixed_by scopes)

abbrev pub tree_at : World → Closure → Tree
tree_at w c = tree_in w.f w.known c

abbrev pub trees_at : World → Frame → List Tree
trees_at w r = frame_trees w.f w.known r

abbrev pub fixed_at : World → Scope → Fixed
fixed_at w s = fixed_in w.fixed s

-- these names are fixed, and no others
abbrev pub fix_more : List ℕ → Fixed → Fixed
fix_more [] z = z
fix_more (k ∷ ks) z = fix_more ks (fix k z)

abbrev pub fix_each : List ℕ → Fixed
fix_each ks = fix_more ks none_fixed
