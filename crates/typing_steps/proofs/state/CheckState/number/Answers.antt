use Rattle.std.proofs.Common.{[], ◌∷◌, arith}
use Rattle.translation.specs.Terms.{nat}
use Rattle.typing_tasks.specs.declared.tasks.Task.TheVariants.{Check, Eliminating}
use Rattle.typing_tasks.specs.declared.tasks.Eliminating.TheVariants.{Number}
use Rattle.typing_steps.proofs.GrowthLaws.{state_later}
use Rattle.typing_steps.proofs.Planning.{leaves, run_one}
use Rattle.typing_steps.proofs.state.CheckState.number.Goals as goal

pub numbers-requires : goal.numbers-requires
numbers-requires c = let (S, M, is, does) = c.requires in (S, is)

pub returns-clause-steps : goal.returns-clause-steps
returns-clause-steps c =
    λ S M is does.
    let state = state_later c.in_ok-ty.ensures.extends _ _ is in
    let type = c.in_ok-ty.ensures.here S is in
    leaves c.numbers.new.book c.args.self.now c.args.tasks.now c.plan.new.self (Eliminating (Number c.args.code)) c.in_ok-plan.field-0 M S (Check c.args.code c.in_ok-ty.ty ∷ []) c.in_ok-plan.ensures.0 state c.in_ok-plan.ensures.1 (omega arith)
    (run_one c.numbers.new.book S M (Check c.args.code c.in_ok-ty.ty) (nat, type, does))
