use Rattle.std.proofs.Common.{ℕ, [], ◌∷◌, ◌++◌, subst, sym}
use Rattle.std.specs.List.{AllZip}
use Rattle.translation.specs.Translated.{Stated}
use Rattle.direct.specs.Known.{Definition}
use Rattle.typing_tasks.specs.States.{place}
use Rattle.typing_steps.specs.Steps.{AreInScope, IsStated}
use Rattle.typing_steps.proofs.StateLaws.{roots_push, scope_push}
use Rattle.typing_steps.proofs.state.CheckState.define.Goals as goal

pub returns : goal.returns
returns c = λ b S A t s ty body.
    let root = c.args.root in
    let d : Stated ℕ = record { name = c.args.number; context = place S; type = A; body = t } in
    let items = c.args.self.now.scope.items.items in
    record {
      at = s.at;
      scope = subst (λ xs. AreInScope b xs (Definition c.args.number t A ∷ S.known)) (sym c.in_ok-push.ensures) (scope_push b items S.known c.args.number A t root (c.depth-depth.ensures.place b (place S) s.at) ty body s.scope);
      nodes = s.nodes;
      heads = s.heads;
      roots = subst (λ rs. AllZip (IsStated b) rs (S.stated ++ d ∷ [])) (sym c.in_ok-push-2.ensures.items) (roots_push b c.args.self.now.roots.items S.stated root d s.roots (ty, body));
    }
