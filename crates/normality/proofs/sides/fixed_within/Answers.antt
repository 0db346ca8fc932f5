use Rattle.std.proofs.Common.{refl, ap, ◌∙◌}
use Rattle.fixed_names.specs.Fixed.{fix}
use Rattle.fixed_names.specs.Scopes.{fixed_in}
use Rattle.fixed_names.specs.Shown.{fixed_by}
use Rattle.normal_formulas.specs.declared.atoms.Atom.{Atom}
use Rattle.normal_parts.specs.Normal.{fix_all}
use Rattle.normality.proofs.FixLaws.{fixes-begin, fixes-next, fixes-end}
use Rattle.normality.proofs.sides.fixed_within.Goals as goal

pub loop-atom-init : goal.loop-atom-init
loop-atom-init c = fixes-begin fix_all (fixed_by c.args.scopes.now) c.args.scope c.args.atoms.now c.requires

pub loop-atom-preserved : goal.loop-atom-preserved
loop-atom-preserved c =
    fixes-next fix_all (λ (a : Atom). a.index.0) (λ x xs z. refl) (fixed_by c.args.scopes.now) (fixed_by c.loop-atom.scopes) (fixed_by c.fix.new.self) c.args.scope c.loop-atom.scope _ c.args.atoms.now c.loop-atom.atom-index _
    c.loop-atom-test.true c.loop-atom.invariant c.in_ok-scope.ensures.grows c.in_ok-scope.ensures.fixes c.in_ok-scope.ensures.within c.in_ok-scope.ensures.depth

pub returns-clause-fixes : goal.returns-clause-fixes
returns-clause-fixes c = fixes-end fix_all (λ z. refl) (fixed_by c.args.scopes.now) (fixed_by c.loop-atom.scopes) c.args.scope c.loop-atom.scope c.args.atoms.now c.loop-atom.atom-index c.loop-atom-test.false c.loop-atom.invariant
