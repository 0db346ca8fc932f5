use Rattle.std.proofs.Common.{◌∷◌, length, sym, ap, ◌∙◌, arith}
use Rattle.std.specs.List.{between}
use Rattle.std.proofs.lemmas.Slice.{first_rest}
use Rattle.typing_steps.proofs.PairLaws.{is_none, is_some, components_single, components_planned, components_not}
use Rattle.typing_steps.proofs.state.CheckState.components.Goals as goal

pub returns-then-is_empty-clause-steps : goal.returns-then-is_empty-clause-steps
returns-then-is_empty-clause-steps c =
    let rest = between 1 (length c.args.components.now) c.args.components.now in
    let whole = first_rest c.args.components.now c.first-item.result (omega (arith, c.in-len1-up.len_at_least)) ∙ ap (λ d. d ∷ rest) (sym c.first-item.is) in
    components_single c.args.book.now c.args.self.now c.args.tasks.now c.plan.new.self _ _ c.args.components c.args.ty c.in_ok-plan.ensures.0 c.in_ok-plan.ensures.1
    (whole ∙ ap (λ l. c.first-item.result ∷ l) (is_none rest c.is_empty.result c.if-is_empty.true c.is_empty.ensures))

pub returns-in_default-2 : goal.returns-in_default-2
returns-in_default-2 c =
    let rest = between 1 (length c.args.components.now) c.args.components.now in
    let whole = first_rest c.args.components.now c.first-item.result (omega (arith, c.in-len1-up.len_at_least)) ∙ ap (λ d. d ∷ rest) (sym c.first-item.is) in
    record {
      extends = c.literal.ensures.extends;
      steps = components_not c.args.book.now c.literal.new.book c.args.self.now c.args.tasks.now c.args.tasks.now c.first-item.result rest c.args.components c.args.ty c.in_ok-family.field-0 whole
          (is_some rest c.is_empty.result c.if-is_empty.false c.is_empty.ensures) c.in_default-2.not-Sigma c.in_ok-family.ensures.literal;
    }

pub returns-clause-steps : goal.returns-clause-steps
returns-clause-steps c =
    let rest = between 1 (length c.args.components.now) c.args.components.now in
    let whole = first_rest c.args.components.now c.first-item.result (omega (arith, c.in-len1-up.len_at_least)) ∙ ap (λ d. d ∷ rest) (sym c.first-item.is) in
    components_planned c.args.book.now c.literal.new.book c.args.self.now c.args.tasks.now c.plan-2.new.self _ _ _ c.args.components c.args.ty _ c.in-Sigma.family c.in_ok-family.field-0 c.literal.ensures.extends
    c.in_ok-plan-2.ensures.0 c.in_ok-plan-2.ensures.1 whole (is_some rest c.is_empty.result c.if-is_empty.false c.is_empty.ensures)
    c.in-Sigma.is c.in_ok-family.ensures.literal c.domain_of.ensures
