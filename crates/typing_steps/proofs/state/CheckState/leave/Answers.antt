use Rattle.typing_steps.proofs.StateLaws.{left_place, left_scope}
use Rattle.typing_steps.proofs.state.CheckState.leave.Goals as goal

pub returns : goal.returns
returns c = λ b S G s e.
    record {
      at = left_place b c.args.self.now.places c.leave-last.new.self S.known G e
          (λ H A is. (c.leave-last.ensures.variable b H A is).3) (λ H is. (c.leave-last.ensures.name b H is).1) s.at;
      scope = left_scope b c.args.self.now.scope.items.items S.known G e s.scope;
      nodes = s.nodes;
      heads = s.heads;
      roots = s.roots;
    }
