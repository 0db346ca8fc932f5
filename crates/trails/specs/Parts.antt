-- What the kids of operators are.
use Rattle.std.specs.Prelude.{List, [], ◌∷◌, Bool, true, false}
use Rattle.trees.specs.declared.op.Op.{Op}
use Rattle.trees.specs.declared.op.Op.TheVariants as op
use Rattle.trails.specs.declared.part.Part.{Part}
use Rattle.trails.specs.declared.part.Part.TheVariants as part

-- the kids of an operator of terms that no eta rule takes apart
abbrev pub parts_of : Op → List Part
parts_of op.Suc = part.Term ∷ []
parts_of op.Fst = part.Term ∷ []
parts_of op.Snd = part.Term ∷ []
parts_of op.App = part.Term ∷ part.Term ∷ []
parts_of op.PApp = part.Term ∷ part.Formula ∷ []
parts_of op.Pi = part.Term ∷ part.Family ∷ []
parts_of op.Sig = part.Term ∷ part.Family ∷ []
parts_of op.NatRec = part.Motive ∷ part.Term ∷ part.Term ∷ part.Term ∷ []
parts_of op.PathP = part.Line ∷ part.Term ∷ part.Term ∷ []
parts_of op.Comp = part.Line ∷ part.Face ∷ part.Lines 1 ∷ part.Term ∷ []
parts_of op.GlueType = part.Term ∷ part.Face ∷ part.Sides 1 ∷ part.Sides 1 ∷ []
parts_of op.Unglue = part.Face ∷ part.Sides 0 ∷ part.Sides 0 ∷ part.Term ∷ []
parts_of _ = []

-- whether an eta rule takes it apart
abbrev pub is_made : Op → Bool
is_made op.Lam = true
is_made op.Pair = true
is_made op.PLam = true
is_made op.Glue = true
is_made _ = false
