use Rattle.std.proofs.Common.{subst}
use Rattle.trees.specs.Trees.{Tree}
use Rattle.translation.specs.Terms.{papp}
use Rattle.direct.specs.Literal.{at}
use Rattle.form_rows.specs.Formulas.{formula_tree}
use Rattle.typed_contexts.proofs.GrowthLaws.{further}
use Rattle.typing_tasks.specs.States.{State, place, with_inferred, inferring}
use Rattle.typing_steps.specs.Steps.{IsFormulaRow}
use Rattle.typing_steps.proofs.GrowthLaws.{state_later}
use Rattle.typing_steps.proofs.PairLaws.{not_path}
use Rattle.typing_steps.proofs.HeadLaws.{takes_last, at_other, at_no, at_yes, path_head}
use Rattle.typing_steps.proofs.state.CheckState.at_formula.Goals as goal

pub take_head-head-requires : goal.take_head-head-requires
take_head-head-requires c =
    let (S, a, A, rs, is, last) = c.requires in (c.args.book.now, S, record { context = place S; term = a; type = A }, rs, is, last)

pub literal-requires : goal.literal-requires
literal-requires c =
    let (S, a, A, rs, is, last) = c.requires in
    let (head, left) = takes_last _ _ _ c.take_head-head.ensures c.args.book.now S a A rs is last in
    (place S, A, head.type_at)

pub returns-in_default : goal.returns-in_default
returns-in_default c = record {
  extends = c.literal.ensures.extends;
  goes = λ S a A rs is last.
      let (head, left) = takes_last _ _ _ c.take_head-head.ensures c.args.book.now S a A rs is last in
      at_other (with_inferred rs S) c.args.formula.now a A (not_path c.literal.new.book c.in_ok-line.field-0 (place S) A (c.in_ok-line.ensures.literal (place S) A head.type_at) c.in_default.not-Path);
}

pub returns-in_err-row-clause-extends : goal.returns-in_err-row-clause-extends
returns-in_err-row-clause-extends c = further c.literal.ensures.extends c.formula_row.ensures.extends

pub returns-in_default-2-clause-extends : goal.returns-in_default-2-clause-extends
returns-in_default-2-clause-extends c = further c.literal.ensures.extends c.formula_row.ensures.extends

pub returns-in_default-2-clause-goes : goal.returns-in_default-2-clause-goes
returns-in_default-2-clause-goes c =
    λ S a A rs is last.
    let (head, left) = takes_last _ _ _ c.take_head-head.ensures c.args.book.now S a A rs is last in
    let here = state_later c.literal.ensures.extends c.take_head-head.new.self (with_inferred rs S) left in
    at_no (with_inferred rs S) c.args.formula.now a A
    (subst (λ o. IsFormulaRow c.formula_row.new.book o (place S) (formula_tree c.args.formula.now)) c.in_default-2.is (c.in_ok-row.ensures.row (place S) here.at))

pub path_at-requires : goal.path_at-requires
path_at-requires c =
    let (S, a, A, rs, is, last) = c.requires in
    let (head, left) = takes_last _ _ _ c.take_head-head.ensures c.args.book.now S a A rs is last in
    let here = state_later c.literal.ensures.extends c.take_head-head.new.self (with_inferred rs S) left in
    let (L, u, v, same, line, path, passes, means) = path_head c.args.book.now c.literal.new.book c.formula_row.new.book c.take_head-head.result c.in_ok-line.field-0 c.in-Path.line c.in_ok-row.field-0 c.in-Some.row (place S) a A (formula_tree c.args.formula.now)
    c.literal.ensures.extends c.formula_row.ensures.extends c.in-Path.is c.in-Some.is head (c.in_ok-line.ensures.literal (place S) A head.type_at) (c.in_ok-row.ensures.row (place S) here.at) in
    (place S, L, u, v, a, formula_tree c.args.formula.now, line, path, means, passes)

pub returns-in_err-head-clause-extends : goal.returns-in_err-head-clause-extends
returns-in_err-head-clause-extends c = further (further c.literal.ensures.extends c.formula_row.ensures.extends) c.path_at.ensures.extends

pub returns-in_err-inferred-clause-extends : goal.returns-in_err-inferred-clause-extends
returns-in_err-inferred-clause-extends c = further (further c.literal.ensures.extends c.formula_row.ensures.extends) c.path_at.ensures.extends

pub returns-clause-extends : goal.returns-clause-extends
returns-clause-extends c = further (further c.literal.ensures.extends c.formula_row.ensures.extends) c.path_at.ensures.extends

pub returns-clause-goes : goal.returns-clause-goes
returns-clause-goes c =
    λ S a A rs is last.
    let r : Tree = formula_tree c.args.formula.now in
    let (head, left) = takes_last _ _ _ c.take_head-head.ensures c.args.book.now S a A rs is last in
    let here = state_later c.literal.ensures.extends c.take_head-head.new.self (with_inferred rs S) left in
    let (L, u, v, same, line, path, passes, means) = path_head c.args.book.now c.literal.new.book c.formula_row.new.book c.take_head-head.result c.in_ok-line.field-0 c.in-Path.line c.in_ok-row.field-0 c.in-Some.row (place S) a A r
    c.literal.ensures.extends c.formula_row.ensures.extends c.in-Path.is c.in-Some.is head (c.in_ok-line.ensures.literal (place S) A head.type_at) (c.in_ok-row.ensures.row (place S) here.at) in
    let T : State = with_inferred rs S in (
      inferring (papp a r) (at L r) T,
      at_yes T c.args.formula.now a A L u v same passes,
      c.in_ok-inferred.ensures c.path_at.new.book T (papp a r) (at L r)
          (state_later (further (further c.literal.ensures.extends c.formula_row.ensures.extends) c.path_at.ensures.extends) c.take_head-head.new.self T left)
          (c.in_ok-head.ensures.typed (place S) L u v a r line path means passes),
    )
