use Rattle.std.proofs.Common.{ap, ◌∙◌, Some}
use Rattle.trees.specs.Language.{Tm}
use Rattle.direct.specs.Literal.{at}
use Rattle.typing_tasks.specs.States.{place, finding, with_inferred}
use Rattle.typing_steps.proofs.GrowthLaws.{state_later}
use Rattle.typing_steps.proofs.LineLaws.{same_as, compared, of_type}
use Rattle.typing_steps.proofs.state.CheckState.at_type.Goals as goal

pub take_head-head-requires : goal.take_head-head-requires
take_head-head-requires c =
    let (S, M, is, does) = c.requires in
    let (a, A, W, rs, last, at, made) = does in
    (c.args.book.now, S, _, rs, is, last)

pub is_same-requires : goal.is_same-requires
is_same-requires c =
    let (S, M, is, does) = c.requires in
    let (a, A, W, rs, last, at, made) = does in
    let (head, state) = c.take_head-head.ensures c.args.book.now S _ rs is last in
    (_, A, W, head.type_at, at)

pub returns-then-not-branch-clause-done : goal.returns-then-not-branch-clause-done
returns-then-not-branch-clause-done c = λ S M is (a, A, W, rs, last, at, made).
    let (head, state) = c.take_head-head.ensures c.args.book.now S _ rs is last in
    made ∙ ap (compared (Some (finding (Tm (place S) a W) (with_inferred rs S)))) (same_as _ A W (c.in_ok-is_same.ensures.same _ A W head.type_at at) ∙ c.if-not-branch.true)

pub returns-clause-done : goal.returns-clause-done
returns-clause-done c = λ S M is (a, A, W, rs, last, at, made).
    let (head, state) = c.take_head-head.ensures c.args.book.now S _ rs is last in
    let same = c.in_ok-is_same.ensures.same _ A W head.type_at at in
    let grown = c.in_ok-is_same.ensures.extends in
    let says = of_type _ _ c.take_head-head.result (place S) a A W grown head (same.0 c.if-not-branch.false) in (
      finding (Tm (place S) a W) (with_inferred rs S),
      c.in_ok-found.ensures c.is_same.new.book (with_inferred rs S) _ (state_later grown _ _ state) says,
      made ∙ ap (compared (Some (finding (Tm (place S) a W) (with_inferred rs S)))) (same_as _ A W same ∙ c.if-not-branch.false),
    )
