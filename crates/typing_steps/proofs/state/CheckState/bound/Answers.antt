use Rattle.std.proofs.Common.{ap, ◌∙◌}
use Rattle.std.specs.Option.{option_map}
use Rattle.trees.specs.Trees.{Var}
use Rattle.typing_tasks.specs.States.{place, inferring}
use Rattle.typing_steps.proofs.GrowthLaws.{state_later}
use Rattle.typing_steps.proofs.KnownLaws.{variable_type}
use Rattle.typing_steps.proofs.state.CheckState.bound.Goals as goal

pub returns-in_ok-inferred-in-Some-clause-infers : goal.returns-in_ok-inferred-in-Some-clause-infers
returns-in_ok-inferred-in-Some-clause-infers c = λ S s.
    let k = c.args.index in
    let (A, e, typed) = rw c.in-Some.is at (c.in_ok-head.ensures.typed (place S) s.at) in (
      inferring (Var k) A S,
      c.in_ok-inferred-in-Some.ensures c.variable.new.book S (Var k) A (state_later c.in_ok-head.ensures.extends c.args.self.now S s) typed,
      ap (option_map (λ B. inferring (Var k) B S)) (variable_type S.known k ∙ e),
    )

pub returns-in-None-clause-infers : goal.returns-in-None-clause-infers
returns-in-None-clause-infers c = λ S s.
    let k = c.args.index in
    ap (option_map (λ B. inferring (Var k) B S)) (variable_type S.known k ∙ (rw c.in-None.is at (c.in_ok-head.ensures.typed (place S) s.at)))
