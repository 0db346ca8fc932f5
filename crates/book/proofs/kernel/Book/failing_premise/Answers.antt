use Rattle.std.proofs.Common.{◌≡◌, ◌<◌, ◌≤◌, ◌∙◌, ◌↔◌, length, get_or, IsSome, IsTrue, sym, ap, subst, arith}
use Rattle.theory.specs.RuleNames.{premises_of}
use Rattle.trees.specs.Things.{meanings}
use Rattle.rules.specs.Claims.{rule_over, premise_at}
use Rattle.book.specs.Shown.{book_means, book_concludes}
use Rattle.book.specs.Fits.{rule_in}
use Rattle.book.proofs.PremiseLaws.{none_holds, one_holds, all_hold}
use Rattle.book.proofs.FitLaws.{adds-refl, adds-trans, conclusions-same, parts-rule, rule-same, rule-some, holds-before}
use Rattle.book.proofs.kernel.Book.failing_premise.Goals as goal

pub loop-at-init : goal.loop-at-init
loop-at-init c =
    let a = c.args.self.now in
    let step = c.args.step.now in
    (adds-refl a, none_holds (book_concludes a) step.premises step.rule (meanings (book_means a) step.parts) (parts-rule a step c.requires.parts))

pub premise_holds-requires-clause-parts : goal.premise_holds-requires-clause-parts
premise_holds-requires-clause-parts c =
    let a = c.args.self.now in
    let step = c.args.step.now in
    rw c.as_slice.ensures.value (rule-some a c.loop-at.self c.loop-at.invariant.0.extends step (parts-rule a step c.requires.parts))

pub returns-in_err-premise_holds-clause-adds : goal.returns-in_err-premise_holds-clause-adds
returns-in_err-premise_holds-clause-adds c =
    adds-trans c.args.self.now c.loop-at.self c.premise_holds.new.self c.loop-at.invariant.0 c.premise_holds.ensures.adds

pub returns-then-not-branch-clause-adds : goal.returns-then-not-branch-clause-adds
returns-then-not-branch-clause-adds c =
    adds-trans c.args.self.now c.loop-at.self c.premise_holds.new.self c.loop-at.invariant.0 c.premise_holds.ensures.adds

pub returns-then-not-branch-clause-some : goal.returns-then-not-branch-clause-some
returns-then-not-branch-clause-some c =
    let a = c.args.self.now in
    let step = c.args.step.now in
    let some = parts-rule a step c.requires.parts in
    let at = c.loop-at.at in
    let premise = get_or c.as_slice-premises.result.now at 0 in
    let holds = rw c.as_slice.ensures.value at c.in_ok-premise_holds.ensures.holds in
    let exact : IsTrue c.in_ok-premise_holds.field-0 ↔ (book_concludes a (get_or step.premises at 0) ≡ premise_at at (rule_in a step)) =
    rw c.as_slice-premises.ensures.value at (holds-before a c.loop-at.self c.loop-at.invariant.0 step some premise at c.in_ok-premise_holds.field-0 holds) in
    record {
      within = omega (arith, c.loop-at-test.true, c.count_premises-at-end.ensures);
      before = c.loop-at.invariant.1.first;
      fails = λ e. let yes = exact.1 e in let no = c.if-not-branch.true in cc;
    }

pub loop-at-preserved : goal.loop-at-preserved
loop-at-preserved c =
    let a = c.args.self.now in
    let step = c.args.step.now in
    let some = parts-rule a step c.requires.parts in
    let at = c.loop-at.at in
    let premise = get_or c.as_slice-premises.result.now at 0 in
    let holds = rw c.as_slice.ensures.value at c.in_ok-premise_holds.ensures.holds in
    let exact : IsTrue c.in_ok-premise_holds.field-0 ↔ (book_concludes a (get_or step.premises at 0) ≡ premise_at at (rule_in a step)) =
    rw c.as_slice-premises.ensures.value at (holds-before a c.loop-at.self c.loop-at.invariant.0 step some premise at c.in_ok-premise_holds.field-0 holds) in
    let lt : at < length step.premises = omega (arith, c.loop-at-test.true, c.count_premises-at-end.ensures, c.requires.count) in (
      adds-trans a c.loop-at.self c.premise_holds.new.self c.loop-at.invariant.0 c.premise_holds.ensures.adds,
      one_holds (book_concludes a) step.premises step.rule (meanings (book_means a) step.parts) at some c.requires.count lt c.loop-at.invariant.1 (exact.0 c.if-not-branch.false),
    )

pub returns-clause-none : goal.returns-clause-none
returns-clause-none c =
    let a = c.args.self.now in
    let step = c.args.step.now in
    let le : length step.premises ≤ c.loop-at.at = omega (arith, c.requires.count, c.count_premises-at-end.ensures) in
    all_hold (book_concludes a) step.premises step.rule (meanings (book_means a) step.parts) c.loop-at.at (parts-rule a step c.requires.parts) c.requires.count le c.loop-at.invariant.1
