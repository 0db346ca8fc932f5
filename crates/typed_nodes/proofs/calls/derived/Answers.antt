use Rattle.recipes.specs.Derivations.{conclusions_at}
use Rattle.typed_nodes.proofs.FewerParts.{may-run}
use Rattle.typed_nodes.proofs.calls.derived.Goals as goal

pub run-requires-clause-right : goal.run-requires-clause-right
run-requires-clause-right c =
    let a = c.args in
    let (s, things, is, call) = c.requires.may in
    (conclusions_at s things, may-run s a.book.now a.rows.now a.gives.now a.parts.now a.premises.now things is call)

pub returns-clause-gives : goal.returns-clause-gives
returns-clause-gives c = λ s is things call.
    let a = c.args in
    c.in_ok-run.ensures.concludes (conclusions_at s things) (may-run s a.book.now a.rows.now a.gives.now a.parts.now a.premises.now things is call)
