use Rattle.std.proofs.Common.{◌∷◌, length, sym, ap, ◌∙◌, refl, arith}
use Rattle.std.specs.List.{between}
use Rattle.std.proofs.lemmas.Slice.{first_rest}
use Rattle.typing_steps.proofs.BindingLaws.{family_planned, function_planned, definition_planned, binder_planned}
use Rattle.typing_steps.proofs.functions.under.Goals as goal

pub returns-in_ok-plan-in-empty-Family : goal.returns-in_ok-plan-in-empty-Family
returns-in_ok-plan-in-empty-Family c =
    let (moved, planned) = c.in_ok-plan-in-empty-Family.ensures in
    let part = c.in-empty-Family in
    family_planned c.args.tasks.now c.plan.new.self _ c.args.binders c.args.inner part.field-0-1 part.sort part.code part.is-1 part.len_below moved planned

pub returns-in_ok-plan-in-empty-Function : goal.returns-in_ok-plan-in-empty-Function
returns-in_ok-plan-in-empty-Function c =
    let (moved, planned) = c.in_ok-plan-in-empty-Function.ensures in
    let part = c.in-empty-Function in
    function_planned c.args.tasks.now c.plan-in-empty-Function.new.self _ c.args.binders c.args.inner part.code part.is-1 part.len_below moved planned

pub returns-in_ok-plan-in-empty-Definition : goal.returns-in_ok-plan-in-empty-Definition
returns-in_ok-plan-in-empty-Definition c =
    let (moved, planned) = c.in_ok-plan-in-empty-Definition.ensures in
    let part = c.in-empty-Definition in
    definition_planned c.args.tasks.now c.plan-in-empty-Definition.new.self _ c.args.binders c.args.inner part.def _ _ part.is-1 part.len_below refl refl moved planned

pub returns-in_ok-plan-in-len1-up-default : goal.returns-in_ok-plan-in-len1-up-default
returns-in_ok-plan-in-len1-up-default c =
    let (moved, planned) = c.in_ok-plan-in-len1-up-default.ensures in
    let rest = between 1 (length c.args.binders.now) c.args.binders.now in
    let whole = first_rest c.args.binders.now c.binder-item.result (omega (arith, c.in-len1-up-default.len_at_least)) ∙ ap (λ d. d ∷ rest) (sym c.binder-item.is) in
    binder_planned c.args.tasks.now c.plan-in-len1-up-default.new.self _ c.args.binders _ c.args.inner _ c.binder-item.result c.sort.result whole refl c.sort.ensures moved planned
