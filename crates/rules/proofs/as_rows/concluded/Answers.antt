use Rattle.trees.specs.Things.{meanings}
use Rattle.rules.proofs.Readings.{reading, room, spent, if_ok_then}
use Rattle.rules.proofs.as_rows.concluded.Goals as goal

pub claim_of-requires-clause-fits : goal.claim_of-requires-clause-fits
claim_of-requires-clause-fits g c =
    let r = reading c.args.rule c.schema_of.result (meanings (g.M.Rows.means c.args.maker.now) c.args.parts.now) c.schema_of.ensures c.requires.parts in
    r.gives_fit.fit

pub claim_of-requires-clause-says : goal.claim_of-requires-clause-says
claim_of-requires-clause-says g c =
    let r = reading c.args.rule c.schema_of.result (meanings (g.M.Rows.means c.args.maker.now) c.args.parts.now) c.schema_of.ensures c.requires.parts in
    r.gives_some

pub returns-clause-covered : goal.returns-clause-covered
returns-clause-covered g c enough =
    let r = reading c.args.rule c.schema_of.result (meanings (g.M.Rows.means c.args.maker.now) c.args.parts.now) c.schema_of.ensures c.requires.parts in
    c.claim_of.ensures.covered (room _ _ _ r.gives_fit enough)

pub returns-clause-spends : goal.returns-clause-spends
returns-clause-spends g c =
    let r = reading c.args.rule c.schema_of.result (meanings (g.M.Rows.means c.args.maker.now) c.args.parts.now) c.schema_of.ensures c.requires.parts in
    spent _ _ _ _ r.gives_fit c.claim_of.ensures.spends

pub returns-clause-claim : goal.returns-clause-claim
returns-clause-claim g c =
    let r = reading c.args.rule c.schema_of.result (meanings (g.M.Rows.means c.args.maker.now) c.args.parts.now) c.schema_of.ensures c.requires.parts in
    if_ok_then c.claim_of.result _ _ _ c.claim_of.ensures.claim r.gives
