use Rattle.typing_tasks.specs.States.{place}
use Rattle.typing_steps.proofs.GrowthLaws.{state_later}
use Rattle.typing_steps.proofs.state.CheckState.enter_name.Goals as goal

pub returns-clause-under : goal.returns-clause-under
returns-clause-under c = λ S s.
    let later = state_later c.in_ok-enter_name.ensures.extends c.args.self.now S s in
    record {
      at = c.in_ok-enter_name.ensures.place (place S) s.at;
      scope = later.scope;
      nodes = later.nodes;
      heads = later.heads;
      roots = later.roots;
    }
