use Rattle.std.proofs.Common.{◌≡◌, ◌<◌, ◌≤◌, ◌∙◌, IsSome, sym, ap, subst, arith}
use Rattle.trees.specs.Things.{meanings}
use Rattle.rules.specs.Claims.{rule_over, side_at, sides_in}
use Rattle.book.specs.Shown.{book_means, AddsRows}
use Rattle.book.specs.Fits.{rule_in}
use Rattle.book.proofs.SideLaws.{side_some, few_sides, side_more, side_fails, sides_end}
use Rattle.book.proofs.FitLaws.{adds-trans, rule-same, rule-some}
use Rattle.book.proofs.kernel.Book.failing_side.Goals as goal

pub side_at-requires : goal.side_at-requires
side_at-requires c =
    rw c.as_slice.ensures.value (rule-some c.args.self.now c.loop-test.self c.loop-test.invariant.0.extends c.args.step.now c.requires)

pub returns-in_err-test-clause-adds : goal.returns-in_err-test-clause-adds
returns-in_err-test-clause-adds c =
    adds-trans c.args.self.now c.loop-test.self c.side_at.new.self c.loop-test.invariant.0 c.side_at.ensures.adds

pub decide-requires : goal.decide-requires
decide-requires c =
    let r = rule_over c.args.step.now.rule (meanings (book_means c.loop-test.self) c.as_slice.result.now) in
    let some = rw c.in-Some.is at c.in_ok-test.ensures.some in
    let place = rw c.in-Some.is at c.in_ok-test.ensures.place in
    subst IsSome (sym some) (side_some r c.loop-test.at place)

pub returns-in_err-decide-clause-adds : goal.returns-in_err-decide-clause-adds
returns-in_err-decide-clause-adds c =
    subst (AddsRows c.args.self.now) (sym c.decide.ensures.same)
    (adds-trans c.args.self.now c.loop-test.self c.side_at.new.self c.loop-test.invariant.0 c.side_at.ensures.adds)

pub returns-then-not-branch-clause-adds : goal.returns-then-not-branch-clause-adds
returns-then-not-branch-clause-adds c =
    subst (AddsRows c.args.self.now) (sym c.decide.ensures.same)
    (adds-trans c.args.self.now c.loop-test.self c.side_at.new.self c.loop-test.invariant.0 c.side_at.ensures.adds)

pub returns-then-not-branch-clause-some : goal.returns-then-not-branch-clause-some
returns-then-not-branch-clause-some c =
    let a = c.args.self.now in
    let step = c.args.step.now in
    let r = rule_in a step in
    let at = c.loop-test.at in
    let same : rule_over step.rule (meanings (book_means c.loop-test.self) c.as_slice.result.now) ≡ r =
    ap (λ ps. rule_over step.rule (meanings (book_means c.loop-test.self) ps)) c.as_slice.ensures.value ∙ rule-same a c.loop-test.self c.loop-test.invariant.0.extends step c.requires in
    let place : at < sides_in r = subst (λ o. at < sides_in o) same (rw c.in-Some.is at c.in_ok-test.ensures.place) in
    record {
      within = place;
      before = c.loop-test.invariant.1;
      fails = side_fails r at _ c.in_ok-decide.field-0 (rw c.in-Some.is at c.in_ok-test.ensures.some ∙ ap (side_at at) same) place c.in_ok-decide.ensures.holds (λ yes. let no = c.if-not-branch.true in cc);
    }

pub overflow_add-at : goal.overflow_add-at
overflow_add-at c =
    let place = rw c.in-Some.is at c.in_ok-test.ensures.place in
    omega (arith, place, few_sides c.args.step.now.rule (meanings (book_means c.loop-test.self) c.as_slice.result.now))

pub loop-test-smaller : goal.loop-test-smaller
loop-test-smaller c =
    let a = c.args.self.now in
    let step = c.args.step.now in
    let same : rule_over step.rule (meanings (book_means c.loop-test.self) c.as_slice.result.now) ≡ rule_in a step =
    ap (λ ps. rule_over step.rule (meanings (book_means c.loop-test.self) ps)) c.as_slice.ensures.value ∙ rule-same a c.loop-test.self c.loop-test.invariant.0.extends step c.requires in
    let place : c.loop-test.at < sides_in (rule_in a step) = subst (λ o. c.loop-test.at < sides_in o) same (rw c.in-Some.is at c.in_ok-test.ensures.place) in
    omega arith

pub loop-test-preserved : goal.loop-test-preserved
loop-test-preserved c =
    let a = c.args.self.now in
    let step = c.args.step.now in
    let r = rule_in a step in
    let at = c.loop-test.at in
    let same : rule_over step.rule (meanings (book_means c.loop-test.self) c.as_slice.result.now) ≡ r =
    ap (λ ps. rule_over step.rule (meanings (book_means c.loop-test.self) ps)) c.as_slice.ensures.value ∙ rule-same a c.loop-test.self c.loop-test.invariant.0.extends step c.requires in
    let place : at < sides_in r = subst (λ o. at < sides_in o) same (rw c.in-Some.is at c.in_ok-test.ensures.place) in (
      subst (AddsRows a) (sym c.decide.ensures.same) (adds-trans a c.loop-test.self c.side_at.new.self c.loop-test.invariant.0 c.side_at.ensures.adds),
      side_more r at _ c.in_ok-decide.field-0 (rw c.in-Some.is at c.in_ok-test.ensures.some ∙ ap (side_at at) same) place c.in_ok-decide.ensures.holds c.if-not-branch.false c.loop-test.invariant.1,
    )

pub returns-clause-adds : goal.returns-clause-adds
returns-clause-adds c =
    adds-trans c.args.self.now c.loop-test.self c.side_at.new.self c.loop-test.invariant.0 c.side_at.ensures.adds

pub returns-clause-none : goal.returns-clause-none
returns-clause-none c =
    let a = c.args.self.now in
    let step = c.args.step.now in
    let same : rule_over step.rule (meanings (book_means c.loop-test.self) c.as_slice.result.now) ≡ rule_in a step =
    ap (λ ps. rule_over step.rule (meanings (book_means c.loop-test.self) ps)) c.as_slice.ensures.value ∙ rule-same a c.loop-test.self c.loop-test.invariant.0.extends step c.requires in
    let none = subst (λ o. sides_in o ≤ c.loop-test.at) same (rw c.in_default.is at c.in_ok-test.ensures.none) in
    sides_end (rule_in a step) c.loop-test.at none c.loop-test.invariant.1
