use Rattle.std.proofs.Common.{◌∷◌, refl}
use Rattle.translation.specs.Terms.{pathp}
use Rattle.typing_tasks.specs.States.{place, with_found}
use Rattle.typing_tasks.specs.Outcomes.{formed}
use Rattle.typing_steps.proofs.GrowthLaws.{state_later}
use Rattle.typing_steps.proofs.state.CheckState.close_path.Goals as goal

pub take_node-right-requires : goal.take_node-right-requires
take_node-right-requires c =
    let (S, M, is, does) = c.requires in
    let (L, u, v, js, found, made) = does in
    (c.args.book.now, S, _, _, is, found)

pub take_node-left-requires : goal.take_node-left-requires
take_node-left-requires c =
    let (S, M, is, does) = c.requires in
    let (L, u, v, js, found, made) = does in
    let (right, one) = c.take_node-right.ensures c.args.book.now S _ _ is found in
    (c.args.book.now, _, _, _, one, refl)

pub take_node-line-requires : goal.take_node-line-requires
take_node-line-requires c =
    let (S, M, is, does) = c.requires in
    let (L, u, v, js, found, made) = does in
    let (right, one) = c.take_node-right.ensures c.args.book.now S _ _ is found in
    let (left, two) = c.take_node-left.ensures c.args.book.now _ _ _ one refl in
    (c.args.book.now, _, _, _, two, refl)

pub path_of-requires : goal.path_of-requires
path_of-requires c =
    let (S, M, is, does) = c.requires in
    let (L, u, v, js, found, made) = does in
    let (right, one) = c.take_node-right.ensures c.args.book.now S _ _ is found in
    let (left, two) = c.take_node-left.ensures c.args.book.now _ _ _ one refl in
    let (line, three) = c.take_node-line.ensures c.args.book.now _ _ _ two refl in
    (place S, L, u, v, line, left, right)

pub returns-clause-done : goal.returns-clause-done
returns-clause-done c = λ S M is (L, u, v, js, found, made).
    let (right, one) = c.take_node-right.ensures c.args.book.now S _ _ is found in
    let (left, two) = c.take_node-left.ensures c.args.book.now _ _ _ one refl in
    let (line, three) = c.take_node-line.ensures c.args.book.now _ _ _ two refl in
    let says = c.in_ok-node.ensures.typed (place S) L u v line left right in
    let later = state_later c.in_ok-node.ensures.extends _ _ three in
    (with_found (formed c.args.sort (place S) (pathp L u v) ∷ js) S, c.in_ok-found.ensures c.path_of.new.book (with_found js S) _ later says, made)
