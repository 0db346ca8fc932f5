use Rattle.std.proofs.Common.{refl}
use Rattle.typing_tasks.specs.States.{with_found, stating}
use Rattle.typing_steps.proofs.state.CheckState.close_definition.Goals as goal

pub take_node-body-requires : goal.take_node-body-requires
take_node-body-requires c =
    let (b, may) = c.requires in
    let (S, M, is, does) = may in
    let (A, t, js, found, made) = does in
    (b, S, _, _, is, found)

pub take_node-ty-requires : goal.take_node-ty-requires
take_node-ty-requires c =
    let (b, may) = c.requires in
    let (S, M, is, does) = may in
    let (A, t, js, found, made) = does in
    let (body, one) = c.take_node-body.ensures b S _ _ is found in
    (b, _, _, _, one, refl)

pub returns : goal.returns
returns c = λ b S M is (A, t, js, found, made).
    let (body, one) = c.take_node-body.ensures b S _ _ is found in
    let (ty, two) = c.take_node-ty.ensures b _ _ _ one refl in
    (stating c.args.number A t (with_found js S), c.in_ok-define.ensures b (with_found js S) A t two ty body, made)
