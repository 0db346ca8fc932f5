use Rattle.std.proofs.Common.{ap, ◌∙◌, Some}
use Rattle.trees.specs.Language.{Ty}
use Rattle.translation.specs.Terms.{universe}
use Rattle.typed_nodes.proofs.GrowthLaws.{type_at_later}
use Rattle.typed_contexts.proofs.GrowthLaws.{further}
use Rattle.typing_tasks.specs.States.{place, finding, with_inferred}
use Rattle.typing_steps.proofs.GrowthLaws.{state_later}
use Rattle.typing_steps.proofs.LineLaws.{same_as, compared, of_type}
use Rattle.typing_steps.proofs.state.CheckState.as_small_type.Goals as goal

pub take_head-head-requires : goal.take_head-head-requires
take_head-head-requires c =
    let (S, M, is, does) = c.requires in
    let (a, A, rs, last, made) = does in
    (c.args.book.now, S, _, rs, is, last)

pub is_row-requires : goal.is_row-requires
is_row-requires c =
    let (S, M, is, does) = c.requires in
    let (a, A, rs, last, made) = does in
    let (head, state) = c.take_head-head.ensures c.args.book.now S _ rs is last in
    (_, A, universe, type_at_later _ _ _ _ _ c.in_ok-universe.ensures.extends head.type_at, c.in_ok-universe.ensures.meaning)

pub returns-then-not-branch-clause-done : goal.returns-then-not-branch-clause-done
returns-then-not-branch-clause-done c = λ S M is (a, A, rs, last, made).
    let (head, state) = c.take_head-head.ensures c.args.book.now S _ rs is last in
    let same = c.in_ok-is_row.ensures.same _ A universe (type_at_later _ _ _ _ _ c.in_ok-universe.ensures.extends head.type_at) c.in_ok-universe.ensures.meaning in
    made ∙ ap (compared (Some (finding (Ty (place S) a) (with_inferred rs S)))) (same_as _ A universe same ∙ c.if-not-branch.true)

pub small_type-requires : goal.small_type-requires
small_type-requires c =
    let (S, M, is, does) = c.requires in
    let (a, A, rs, last, made) = does in
    let (head, state) = c.take_head-head.ensures c.args.book.now S _ rs is last in
    let same = c.in_ok-is_row.ensures.same _ A universe (type_at_later _ _ _ _ _ c.in_ok-universe.ensures.extends head.type_at) c.in_ok-universe.ensures.meaning in
    (place S, a, of_type _ _ c.take_head-head.result (place S) a A universe (further c.in_ok-universe.ensures.extends c.in_ok-is_row.ensures.extends) head (same.0 c.if-not-branch.false))

pub returns-clause-done : goal.returns-clause-done
returns-clause-done c = λ S M is (a, A, rs, last, made).
    let (head, state) = c.take_head-head.ensures c.args.book.now S _ rs is last in
    let same = c.in_ok-is_row.ensures.same _ A universe (type_at_later _ _ _ _ _ c.in_ok-universe.ensures.extends head.type_at) c.in_ok-universe.ensures.meaning in
    let grown = further c.in_ok-universe.ensures.extends c.in_ok-is_row.ensures.extends in
    let small = c.in_ok-node.ensures.typed (place S) a (of_type _ _ c.take_head-head.result (place S) a A universe grown head (same.0 c.if-not-branch.false)) in (
      finding (Ty (place S) a) (with_inferred rs S),
      c.in_ok-found.ensures c.small_type.new.book (with_inferred rs S) _ (state_later (further grown c.in_ok-node.ensures.extends) _ _ state) small,
      made ∙ ap (compared (Some (finding (Ty (place S) a) (with_inferred rs S)))) (same_as _ A universe same ∙ c.if-not-branch.false),
    )

pub returns-in_err-is_row-clause-extends : goal.returns-in_err-is_row-clause-extends
returns-in_err-is_row-clause-extends c = further c.in_ok-universe.ensures.extends c.is_row.ensures.extends

pub returns-then-not-branch-clause-extends : goal.returns-then-not-branch-clause-extends
returns-then-not-branch-clause-extends c = further c.in_ok-universe.ensures.extends c.in_ok-is_row.ensures.extends

pub returns-in_err-node-clause-extends : goal.returns-in_err-node-clause-extends
returns-in_err-node-clause-extends c = further (further c.in_ok-universe.ensures.extends c.in_ok-is_row.ensures.extends) c.small_type.ensures.extends

pub returns-in_err-found-clause-extends : goal.returns-in_err-found-clause-extends
returns-in_err-found-clause-extends c = further (further c.in_ok-universe.ensures.extends c.in_ok-is_row.ensures.extends) c.in_ok-node.ensures.extends

pub returns-clause-extends : goal.returns-clause-extends
returns-clause-extends c = further (further c.in_ok-universe.ensures.extends c.in_ok-is_row.ensures.extends) c.in_ok-node.ensures.extends
