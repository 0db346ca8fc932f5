use Rattle.std.proofs.Common.{ap, ◌∙◌, Some}
use Rattle.trees.specs.Judgements.{WithVar}
use Rattle.trees.specs.Language.{Ty}
use Rattle.translation.specs.Terms.{nat, universe, pi, app, lifted, innermost}
use Rattle.typed_nodes.proofs.GrowthLaws.{type_at_later}
use Rattle.typed_contexts.proofs.GrowthLaws.{further}
use Rattle.typing_tasks.specs.States.{place, finding, with_inferred}
use Rattle.typing_steps.proofs.GrowthLaws.{state_later}
use Rattle.typing_steps.proofs.LineLaws.{same_as, compared, of_type}
use Rattle.typing_steps.proofs.state.CheckState.family_at_number.Goals as goal

pub take_head-head-requires : goal.take_head-head-requires
take_head-head-requires c =
    let (S, M, is, does) = c.requires in
    let (a, A, rs, last, made) = does in
    (c.args.book.now, S, _, rs, is, last)

pub is_row-requires : goal.is_row-requires
is_row-requires c =
    let (S, M, is, does) = c.requires in
    let (a, A, rs, last, made) = does in
    let (head, state) = c.take_head-head.ensures c.args.book.now S _ rs is last in
    (_, A, pi nat universe, type_at_later _ _ _ _ _ c.in_ok-families.ensures.extends head.type_at, c.in_ok-families.ensures.meaning)

pub returns-then-not-branch-clause-done : goal.returns-then-not-branch-clause-done
returns-then-not-branch-clause-done c = λ S M is (a, A, rs, last, made).
    let (head, state) = c.take_head-head.ensures c.args.book.now S _ rs is last in
    let same = c.in_ok-is_row.ensures.same _ A (pi nat universe) (type_at_later _ _ _ _ _ c.in_ok-families.ensures.extends head.type_at) c.in_ok-families.ensures.meaning in
    made ∙ ap (compared (Some (finding (Ty (WithVar (place S) nat) (app (lifted a) innermost)) (with_inferred rs S)))) (same_as _ A (pi nat universe) same ∙ c.if-not-branch.true)

pub family_of_numbers-requires : goal.family_of_numbers-requires
family_of_numbers-requires c =
    let (S, M, is, does) = c.requires in
    let (a, A, rs, last, made) = does in
    let (head, state) = c.take_head-head.ensures c.args.book.now S _ rs is last in
    let same = c.in_ok-is_row.ensures.same _ A (pi nat universe) (type_at_later _ _ _ _ _ c.in_ok-families.ensures.extends head.type_at) c.in_ok-families.ensures.meaning in
    let grown = further c.in_ok-families.ensures.extends c.in_ok-is_row.ensures.extends in
    let says = of_type _ _ c.take_head-head.result (place S) a A (pi nat universe) grown head (same.0 c.if-not-branch.false) in
    let ctx = c.ctx.ensures c.is_row.new.book _ (state_later grown _ _ state) in
    (place S, a, ctx, says)

pub small_type-requires : goal.small_type-requires
small_type-requires c =
    let (S, M, is, does) = c.requires in
    let (a, A, rs, last, made) = does in
    let (head, state) = c.take_head-head.ensures c.args.book.now S _ rs is last in
    let same = c.in_ok-is_row.ensures.same _ A (pi nat universe) (type_at_later _ _ _ _ _ c.in_ok-families.ensures.extends head.type_at) c.in_ok-families.ensures.meaning in
    let grown = further c.in_ok-families.ensures.extends c.in_ok-is_row.ensures.extends in
    let says = of_type _ _ c.take_head-head.result (place S) a A (pi nat universe) grown head (same.0 c.if-not-branch.false) in
    let ctx = c.ctx.ensures c.is_row.new.book _ (state_later grown _ _ state) in
    (_, _, c.in_ok-small.ensures.typed (place S) a ctx says)

pub returns-clause-done : goal.returns-clause-done
returns-clause-done c = λ S M is (a, A, rs, last, made).
    let (head, state) = c.take_head-head.ensures c.args.book.now S _ rs is last in
    let same = c.in_ok-is_row.ensures.same _ A (pi nat universe) (type_at_later _ _ _ _ _ c.in_ok-families.ensures.extends head.type_at) c.in_ok-families.ensures.meaning in
    let grown = further c.in_ok-families.ensures.extends c.in_ok-is_row.ensures.extends in
    let says = of_type _ _ c.take_head-head.result (place S) a A (pi nat universe) grown head (same.0 c.if-not-branch.false) in
    let ctx = c.ctx.ensures c.is_row.new.book _ (state_later grown _ _ state) in
    let node = c.in_ok-node.ensures.typed _ _ (c.in_ok-small.ensures.typed (place S) a ctx says) in
    let J = Ty (WithVar (place S) nat) (app (lifted a) innermost) in (
      finding J (with_inferred rs S),
      c.in_ok-found.ensures c.small_type.new.book (with_inferred rs S) J (state_later (further (further grown c.in_ok-small.ensures.extends) c.in_ok-node.ensures.extends) _ _ state) node,
      made ∙ ap (compared (Some (finding J (with_inferred rs S)))) (same_as _ A (pi nat universe) same ∙ c.if-not-branch.false),
    )

pub returns-in_err-is_row-clause-extends : goal.returns-in_err-is_row-clause-extends
returns-in_err-is_row-clause-extends c = further c.in_ok-families.ensures.extends c.is_row.ensures.extends

pub returns-then-not-branch-clause-extends : goal.returns-then-not-branch-clause-extends
returns-then-not-branch-clause-extends c = further c.in_ok-families.ensures.extends c.in_ok-is_row.ensures.extends

pub returns-in_err-small-clause-extends : goal.returns-in_err-small-clause-extends
returns-in_err-small-clause-extends c = further (further c.in_ok-families.ensures.extends c.in_ok-is_row.ensures.extends) c.family_of_numbers.ensures.extends

pub returns-in_err-node-clause-extends : goal.returns-in_err-node-clause-extends
returns-in_err-node-clause-extends c = further (further (further c.in_ok-families.ensures.extends c.in_ok-is_row.ensures.extends) c.in_ok-small.ensures.extends) c.small_type.ensures.extends

pub returns-in_err-found-clause-extends : goal.returns-in_err-found-clause-extends
returns-in_err-found-clause-extends c = further (further (further c.in_ok-families.ensures.extends c.in_ok-is_row.ensures.extends) c.in_ok-small.ensures.extends) c.in_ok-node.ensures.extends

pub returns-clause-extends : goal.returns-clause-extends
returns-clause-extends c = further (further (further c.in_ok-families.ensures.extends c.in_ok-is_row.ensures.extends) c.in_ok-small.ensures.extends) c.in_ok-node.ensures.extends
