use Rattle.fixed_names.specs.Shown.{fixed_by}
use Rattle.normal_parts.specs.Normal.{fix_all}
use Rattle.normality.proofs.FixLaws.{Fixes}
use Rattle.normality.proofs.sides.fixed_within.Given as goal

abbrev pub invariant-loop-atom : goal.invariant-loop-atom
invariant-loop-atom l = Fixes fix_all (fixed_by l.fn.scopes) (fixed_by l.scopes) l.fn.scope l.scope l.atoms l.atom-index
