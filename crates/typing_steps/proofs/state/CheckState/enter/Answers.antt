use Rattle.typing_tasks.specs.States.{place}
use Rattle.typing_steps.proofs.GrowthLaws.{state_later}
use Rattle.typing_steps.proofs.state.CheckState.enter.Goals as goal

pub returns-clause-under : goal.returns-clause-under
returns-clause-under c = λ S A s ty.
    let later = state_later c.in_ok-enter.ensures.extends c.args.self.now S s in
    record {
      at = c.in_ok-enter.ensures.place (place S) A s.at ty;
      scope = later.scope;
      nodes = later.nodes;
      heads = later.heads;
      roots = later.roots;
    }
