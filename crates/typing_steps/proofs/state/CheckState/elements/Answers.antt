use Rattle.std.proofs.Common.{◌∷◌, length, sym, ap, ◌∙◌, arith}
use Rattle.std.specs.List.{between}
use Rattle.std.proofs.lemmas.Slice.{first_rest}
use Rattle.typing_tasks.specs.States.{place}
use Rattle.typing_steps.proofs.PairLaws.{short}
use Rattle.typing_steps.proofs.HeadLaws.{head_typed, elements_none, argument_planned, argument_not, at_planned, at_not}
use Rattle.typing_steps.proofs.state.CheckState.elements.Goals as goal

pub returns-in_default-clause-steps : goal.returns-in_default-clause-steps
returns-in_default-clause-steps c = elements_none c.args.book.now c.args.self.now c.args.tasks.now c.args.elements (short c.args.elements.now c.in_default.len_below)

pub literal-requires : goal.literal-requires
literal-requires c =
    let (S, M, is, does) = c.requires in
    let (a, A, rs, last, e) = does in
    let head = head_typed c.args.book.now c.args.self.now c.last_head.result S a A rs c.last_head.ensures is last in
    (place S, A, head.type_at)

pub returns-in_default-2 : goal.returns-in_default-2
returns-in_default-2 c =
    let rest = between 1 (length c.args.elements.now) c.args.elements.now in
    let whole = first_rest c.args.elements.now c.element-item.result (omega (arith, c.in-len1-up.len_at_least)) ∙ ap (λ d. d ∷ rest) (sym c.element-item.is ∙ c.in-Argument.is) in
    record {
      extends = c.literal.ensures.extends;
      steps = argument_not c.args.book.now c.literal.new.book c.args.self.now c.args.tasks.now c.args.tasks.now _ rest c.args.elements c.last_head.result c.in_ok-family-in-Argument.field-0 whole c.in_default-2.not-Pi c.last_head.ensures c.in_ok-family-in-Argument.ensures.literal;
    }

pub returns-in_ok-plan-in-Argument-clause-steps : goal.returns-in_ok-plan-in-Argument-clause-steps
returns-in_ok-plan-in-Argument-clause-steps c =
    let rest = between 1 (length c.args.elements.now) c.args.elements.now in
    let whole = first_rest c.args.elements.now c.element-item.result (omega (arith, c.in-len1-up.len_at_least)) ∙ ap (λ d. d ∷ rest) (sym c.element-item.is ∙ c.in-Argument.is) in
    argument_planned c.args.book.now c.literal.new.book c.args.self.now c.args.tasks.now c.plan.new.self _ _ _ c.args.elements _ c.in-Pi.family c.last_head.result c.in_ok-family-in-Argument.field-0
    c.literal.ensures.extends c.in_ok-plan-in-Argument.ensures.0 c.in_ok-plan-in-Argument.ensures.1 whole c.in-Pi.is c.last_head.ensures c.in_ok-family-in-Argument.ensures.literal c.domain_of.ensures

pub returns-in_ok-plan-in-At-clause-steps : goal.returns-in_ok-plan-in-At-clause-steps
returns-in_ok-plan-in-At-clause-steps c =
    let rest = between 1 (length c.args.elements.now) c.args.elements.now in
    let whole = first_rest c.args.elements.now c.element-item.result (omega (arith, c.in-len1-up.len_at_least)) ∙ ap (λ d. d ∷ rest) (sym c.element-item.is ∙ c.in-At.is) in
    at_planned c.args.book.now c.at_formula.new.book c.args.self.now c.at_formula.new.self c.args.tasks.now c.plan-then-branch.new.self _ _ _ _ c.args.elements c.in_ok-at_formula-in-At.field-0
    c.in_ok-plan-in-At.ensures.0 c.in_ok-plan-in-At.ensures.1 whole c.if-branch.true c.in_ok-at_formula-in-At.ensures.goes

pub returns-else-branch-clause-steps : goal.returns-else-branch-clause-steps
returns-else-branch-clause-steps c =
    let rest = between 1 (length c.args.elements.now) c.args.elements.now in
    let whole = first_rest c.args.elements.now c.element-item.result (omega (arith, c.in-len1-up.len_at_least)) ∙ ap (λ d. d ∷ rest) (sym c.element-item.is ∙ c.in-At.is) in
    at_not c.args.book.now c.at_formula.new.book c.args.self.now c.at_formula.new.self c.args.tasks.now c.args.tasks.now _ _ rest c.args.elements c.in_ok-at_formula-in-At.field-0
    whole c.if-branch.false c.in_ok-at_formula-in-At.ensures.goes
