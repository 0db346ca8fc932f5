use Rattle.std.proofs.Common.{◌∷◌, length, sym, ap, ◌∙◌, arith}
use Rattle.std.specs.List.{between}
use Rattle.std.proofs.lemmas.Slice.{first_rest}
use Rattle.typing_steps.proofs.DefinitionLaws.{block_planned, empty_planned}
use Rattle.typing_steps.proofs.definitions.block.Goals as goal

pub returns-in-empty : goal.returns-in-empty
returns-in-empty c = empty_planned c.args.tasks.now c.args.defs c.in-empty.len_below

pub returns-in_ok-plan-in-len1-up : goal.returns-in_ok-plan-in-len1-up
returns-in_ok-plan-in-len1-up c =
    let (moved, planned) = c.in_ok-plan-in-len1-up.ensures in
    let rest = between 1 (length c.args.defs.now) c.args.defs.now in
    let whole = first_rest c.args.defs.now c.def-item.result (omega (arith, c.in-len1-up.len_at_least)) ∙ ap (λ d. d ∷ rest) (sym c.def-item.is) in
    block_planned c.args.tasks.now c.plan.new.self _ _ _ c.args.defs _ moved planned c.deref.ensures.value whole
