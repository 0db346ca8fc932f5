use Rattle.std.proofs.Common.{refl}
use Rattle.fixed_names.specs.Shown.{fixed_by}
use Rattle.fixed_names.specs.declared.scopes.Scope.TheVariants as scope
use Rattle.normality.specs.Worlds.{fix_more}
use Rattle.normality.proofs.FixLaws.{fixes-begin, fixes-next, fixes-end}
use Rattle.normality.proofs.normality.scope_of.Goals as goal

pub loop-index-init : goal.loop-index-init
loop-index-init c = fixes-begin fix_more (fixed_by c.args.scopes.now) scope.Open c.args.fixed.now refl

pub loop-index-preserved : goal.loop-index-preserved
loop-index-preserved c =
    fixes-next fix_more (λ n. n) (λ x xs z. refl) (fixed_by c.args.scopes.now) (fixed_by c.loop-index.scopes) (fixed_by c.fix.new.self) scope.Open c.loop-index.scope _ c.args.fixed.now c.loop-index.index-index _
    c.loop-index-test.true c.loop-index.invariant c.in_ok-scope.ensures.grows c.in_ok-scope.ensures.fixes c.in_ok-scope.ensures.within c.in_ok-scope.ensures.depth

pub returns-clause-fixes : goal.returns-clause-fixes
returns-clause-fixes c = fixes-end fix_more (λ z. refl) (fixed_by c.args.scopes.now) (fixed_by c.loop-index.scopes) scope.Open c.loop-index.scope c.args.fixed.now c.loop-index.index-index c.loop-index-test.false c.loop-index.invariant
