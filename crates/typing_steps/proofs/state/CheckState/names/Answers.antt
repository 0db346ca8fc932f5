use Rattle.typing_tasks.specs.States.{place}
use Rattle.typing_steps.proofs.GrowthLaws.{state_later}
use Rattle.typing_steps.proofs.PairLaws.{path_parts, names_none, names_not, names_planned}
use Rattle.typed_contexts.proofs.GrowthLaws.{further}
use Rattle.typing_steps.proofs.state.CheckState.names.Goals as goal

pub returns-then-count-eq0-clause-steps : goal.returns-then-count-eq0-clause-steps
returns-then-count-eq0-clause-steps c =
    names_none c.args.book.now c.args.self.now c.args.tasks.now c.plan.new.self c.in_ok-plan.field-0 c.args.count c.args.code c.args.ty c.if-count-eq0.true c.in_ok-plan.ensures.0 c.in_ok-plan.ensures.1

pub returns-in_default : goal.returns-in_default
returns-in_default c = record {
  extends = c.literal.ensures.extends;
  steps = names_not c.args.book.now c.literal.new.book c.args.self.now c.args.self.now c.args.tasks.now c.args.tasks.now c.args.count c.args.code c.args.ty c.in_ok-line.field-0 c.if-count-eq0.false c.in_default.not-Path c.in_ok-line.ensures.literal;
}

pub under_name-requires : goal.under_name-requires
under_name-requires c =
    let (S, M, is, does) = c.requires in
    let (W, here, e) = does in
    let (L, u, v, same, line) = path_parts c.literal.new.book c.in_ok-line.field-0 c.in-Path.line (place S) W c.in-Path.is (c.in_ok-line.ensures.literal (place S) W here) in
    (place S, line.home, line.sub, line.sub_is)

pub enter_name-requires : goal.enter_name-requires
enter_name-requires c =
    let (S, M, is, does) = c.requires in
    (S, state_later (further c.literal.ensures.extends c.under_name.ensures.extends) c.args.self.now S is)

pub returns-in_err-sub-clause-extends : goal.returns-in_err-sub-clause-extends
returns-in_err-sub-clause-extends c = further c.literal.ensures.extends c.under_name.ensures.extends

pub returns-in_err-enter_name-clause-extends : goal.returns-in_err-enter_name-clause-extends
returns-in_err-enter_name-clause-extends c = further (further c.literal.ensures.extends c.under_name.ensures.extends) c.enter_name.ensures.extends

pub returns-in_err-plan-2-clause-extends : goal.returns-in_err-plan-2-clause-extends
returns-in_err-plan-2-clause-extends c = further (further c.literal.ensures.extends c.under_name.ensures.extends) c.enter_name.ensures.extends

pub returns-clause-extends : goal.returns-clause-extends
returns-clause-extends c = further (further c.literal.ensures.extends c.under_name.ensures.extends) c.enter_name.ensures.extends

pub returns-clause-steps : goal.returns-clause-steps
returns-clause-steps c =
    names_planned c.args.book.now c.literal.new.book c.under_name.new.book c.enter_name.new.book c.args.self.now c.enter_name.new.self c.args.tasks.now c.plan-2.new.self c.in_ok-plan-2.field-0
    c.args.count c.args.code c.args.ty c.in-Path.line c.in_ok-sub.sub c.in_ok-line.field-0 c.if-count-eq0.false c.literal.ensures.extends c.under_name.ensures.extends c.enter_name.ensures.extends
    c.in_ok-plan-2.ensures.0 c.in_ok-plan-2.ensures.1 c.in-Path.is c.in_ok-line.ensures.literal c.in_ok-sub.ensures.typed c.in_ok-enter_name.ensures.under
