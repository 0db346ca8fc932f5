use Rattle.std.proofs.Common.{sym}
use Rattle.trees.specs.Language.{Ty}
use Rattle.substitution.proofs.ThenLaws.{apply-id}
use Rattle.typed_nodes.proofs.GrowthLaws.{says_later}
use Rattle.typing_tasks.specs.States.{place}
use Rattle.typing_steps.proofs.state.CheckState.type_here.Goals as goal

pub returns-clause-here : goal.returns-clause-here
returns-clause-here c = λ S A s ty. record {
  home = place S;
  tree = A;
  sub = _;
  type_is = says_later _ _ c.args.ty (Ty (place S) A) c.in_ok-sub.ensures.extends ty;
  sub_is = c.in_ok-sub.ensures.here S s;
  is = sym (apply-id A);
}
