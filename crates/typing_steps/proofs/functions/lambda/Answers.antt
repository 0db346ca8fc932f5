use Rattle.std.proofs.Common.{◌∷◌, length, sym, ap, ◌∙◌, refl, arith}
use Rattle.std.specs.List.{between}
use Rattle.std.proofs.lemmas.Slice.{first_rest}
use Rattle.typing_steps.proofs.TakingLaws.{check_planned, taking_planned}
use Rattle.typing_steps.proofs.functions.lambda.Goals as goal

pub returns-in_ok-plan-in-empty : goal.returns-in_ok-plan-in-empty
returns-in_ok-plan-in-empty c =
    let (moved, planned) = c.in_ok-plan-in-empty.ensures in
    check_planned c.args.tasks.now c.plan.new.self _ c.args.binders c.args.code c.args.ty c.in-empty.len_below moved planned

pub returns-in_ok-plan-in-len1-up : goal.returns-in_ok-plan-in-len1-up
returns-in_ok-plan-in-len1-up c =
    let (moved, planned) = c.in_ok-plan-in-len1-up.ensures in
    let rest = between 1 (length c.args.binders.now) c.args.binders.now in
    let whole = first_rest c.args.binders.now c.binder-item.result (omega (arith, c.in-len1-up.len_at_least)) ∙ ap (λ d. d ∷ rest) (sym c.binder-item.is) in
    taking_planned c.args.tasks.now c.plan-in-len1-up.new.self _ c.args.binders _ c.args.code c.args.ty _ c.binder-item.result whole refl moved planned
