use Rattle.std.proofs.Common.{◌-◌, take, subst, ap, sym, ◌∙◌}
use Rattle.typed_contexts.specs.Places.{IsPlace}
use Rattle.typing_steps.specs.Steps.{AreInScope}
use Rattle.typing_steps.proofs.StateLaws.{scope_cut, place_forgetting}
use Rattle.typing_steps.proofs.state.CheckState.forget.Goals as goal

pub returns : goal.returns
returns c = λ b S G s e.
    let items = c.args.self.now.scope.items.items in
    let cut = c.cut.ensures ∙ ap (λ n. take n items) (c.saturating_sub.ensures ∙ ap (λ n. n - c.args.count) c.mark-mark.ensures) in
    record {
      at = subst (IsPlace b c.args.self.now.places) (place_forgetting c.args.count S.known G e) s.at;
      scope = subst (λ xs. AreInScope b xs G) (sym cut) (scope_cut b items c.args.count S.known G s.scope e);
      nodes = s.nodes;
      heads = s.heads;
      roots = s.roots;
    }
