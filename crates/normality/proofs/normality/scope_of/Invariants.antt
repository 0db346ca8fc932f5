use Rattle.fixed_names.specs.Shown.{fixed_by}
use Rattle.fixed_names.specs.declared.scopes.Scope.TheVariants as scope
use Rattle.normality.specs.Worlds.{fix_more}
use Rattle.normality.proofs.FixLaws.{Fixes}
use Rattle.normality.proofs.normality.scope_of.Given as goal

abbrev pub invariant-loop-index : goal.invariant-loop-index
invariant-loop-index l = Fixes fix_more (fixed_by l.fn.scopes) (fixed_by l.scopes) scope.Open l.scope l.fixed l.index-index
