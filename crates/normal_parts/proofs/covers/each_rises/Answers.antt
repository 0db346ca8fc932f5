use Rattle.std.proofs.Common.{◌+◌, refl, sym, ap, subst, arith, length}
use Rattle.std.specs.List.{All}
use Rattle.std.specs.List.Sorted.{IsStrictlySortedBy}
use Rattle.std.proofs.lemmas.List.{take_all}
use Rattle.normal_formulas.specs.Atoms.{lists_of, level_cmp}
use Rattle.normal_formulas.proofs.OrderLaws.{length-lists}
use Rattle.normal_parts.specs.Parts.{IsRising}
use Rattle.normal_parts.proofs.PartLaws.{list-more, list-fails, no-length}
use Rattle.normal_parts.proofs.TellLaws.{is-no, is-yes, false-true}
use Rattle.normal_parts.proofs.covers.each_rises.Goals as goal

pub returns-then-len-eq0 : goal.returns-then-len-eq0
returns-then-len-eq0 c =
    is-no (list-fails IsRising c.args.conjunctions.now c.loop-conjunction.conjunction-index c.conjunction-item.result c.loop-conjunction-test.true c.conjunction-item.is
    (λ h. h.0 (no-length c.conjunction-item.result.items (omega arith))))

pub returns-then-not-rises : goal.returns-then-not-rises
returns-then-not-rises c =
    is-no (list-fails IsRising c.args.conjunctions.now c.loop-conjunction.conjunction-index c.conjunction-item.result c.loop-conjunction-test.true c.conjunction-item.is
    (λ h. false-true (c.if-not-rises.ensures.1 (subst (IsStrictlySortedBy level_cmp) (sym c.deref.ensures.value) h.1))))

pub loop-conjunction-preserved : goal.loop-conjunction-preserved
loop-conjunction-preserved c =
    list-more IsRising c.args.conjunctions.now c.loop-conjunction.conjunction-index c.conjunction-item.result c.loop-conjunction-test.true c.conjunction-item.is
    (λ e. let l = ap length e in omega arith, subst (IsStrictlySortedBy level_cmp) c.deref.ensures.value (c.if-not-rises.ensures.0 refl)) c.loop-conjunction.invariant

pub returns : goal.returns
returns c =
    is-yes (subst (All IsRising) (take_all c.loop-conjunction.conjunction-index (lists_of c.args.conjunctions.now) (let l = length-lists c.args.conjunctions.now in omega arith)) c.loop-conjunction.invariant)
