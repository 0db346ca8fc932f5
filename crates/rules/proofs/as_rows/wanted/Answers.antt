use Rattle.std.proofs.Common.{◌<◌, length, arith}
use Rattle.trees.specs.Things.{meanings}
use Rattle.rules.proofs.Readings.{reading, room, spent, if_ok_then}
use Rattle.rules.proofs.as_rows.wanted.Goals as goal

pub bounds-schema_of-at : goal.bounds-schema_of-at
bounds-schema_of-at g c =
    let r = reading c.args.rule c.schema_of.result (meanings (g.M.Rows.means c.args.maker.now) c.args.parts.now) c.schema_of.ensures c.requires.parts in
    omega (arith, r.count, c.requires.within)

pub claim_of-requires-clause-fits : goal.claim_of-requires-clause-fits
claim_of-requires-clause-fits g c =
    let r = reading c.args.rule c.schema_of.result (meanings (g.M.Rows.means c.args.maker.now) c.args.parts.now) c.schema_of.ensures c.requires.parts in
    let lt : c.args.at < length c.schema_of.result.wants.now = omega (arith, r.count, c.requires.within) in
    (r.wants_fit c.args.at _ lt).fit

pub claim_of-requires-clause-says : goal.claim_of-requires-clause-says
claim_of-requires-clause-says g c =
    let r = reading c.args.rule c.schema_of.result (meanings (g.M.Rows.means c.args.maker.now) c.args.parts.now) c.schema_of.ensures c.requires.parts in
    let lt : c.args.at < length c.schema_of.result.wants.now = omega (arith, r.count, c.requires.within) in
    r.wants_some c.args.at _ lt

pub claim_of-requires-clause-shifts : goal.claim_of-requires-clause-shifts
claim_of-requires-clause-shifts g c then =
    let r = reading c.args.rule c.schema_of.result (meanings (g.M.Rows.means c.args.maker.now) c.args.parts.now) c.schema_of.ensures c.requires.parts in
    let lt : c.args.at < length c.schema_of.result.wants.now = omega (arith, r.count, c.requires.within) in
    absurd (r.wants_plain c.args.at _ lt then)

pub returns-clause-covered : goal.returns-clause-covered
returns-clause-covered g c enough =
    let r = reading c.args.rule c.schema_of.result (meanings (g.M.Rows.means c.args.maker.now) c.args.parts.now) c.schema_of.ensures c.requires.parts in
    let lt : c.args.at < length c.schema_of.result.wants.now = omega (arith, r.count, c.requires.within) in
    c.claim_of.ensures.covered (room _ _ _ (r.wants_fit c.args.at _ lt) enough)

pub returns-clause-spends : goal.returns-clause-spends
returns-clause-spends g c =
    let r = reading c.args.rule c.schema_of.result (meanings (g.M.Rows.means c.args.maker.now) c.args.parts.now) c.schema_of.ensures c.requires.parts in
    let lt : c.args.at < length c.schema_of.result.wants.now = omega (arith, r.count, c.requires.within) in
    spent _ _ _ _ (r.wants_fit c.args.at _ lt) c.claim_of.ensures.spends

pub returns-clause-claim : goal.returns-clause-claim
returns-clause-claim g c =
    let r = reading c.args.rule c.schema_of.result (meanings (g.M.Rows.means c.args.maker.now) c.args.parts.now) c.schema_of.ensures c.requires.parts in
    let lt : c.args.at < length c.schema_of.result.wants.now = omega (arith, r.count, c.requires.within) in
    if_ok_then c.claim_of.result _ _ _ c.claim_of.ensures.claim (r.wants c.args.at _ lt)
