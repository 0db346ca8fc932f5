use Rattle.std.proofs.Common.{◌≡◌, true, false, ◌∙◌, arith}
use Rattle.trees.specs.Things.{meanings}
use Rattle.rules.proofs.Readings.{reading, room, spent}
use Rattle.rules.proofs.as_rows.side.Goals as goal

pub returns-then-at-sides-clause-none : goal.returns-then-at-sides-clause-none
returns-then-at-sides-clause-none g c =
    let r = reading c.args.rule c.schema_of.result (meanings (g.M.Rows.means c.args.maker.now) c.args.parts.now) c.schema_of.ensures c.requires in
    omega (arith, r.sides_count, c.if-at-sides.true)

pub test_of-requires-clause-fits : goal.test_of-requires-clause-fits
test_of-requires-clause-fits g c =
    let r = reading c.args.rule c.schema_of.result (meanings (g.M.Rows.means c.args.maker.now) c.args.parts.now) c.schema_of.ensures c.requires in
    (r.sides_fit c.args.at _ c.if-at-sides.false).fit

pub test_of-requires-clause-says : goal.test_of-requires-clause-says
test_of-requires-clause-says g c =
    let r = reading c.args.rule c.schema_of.result (meanings (g.M.Rows.means c.args.maker.now) c.args.parts.now) c.schema_of.ensures c.requires in
    r.sides_some c.args.at _ c.if-at-sides.false

pub test_of-requires-clause-shifts : goal.test_of-requires-clause-shifts
test_of-requires-clause-shifts g c then =
    let r = reading c.args.rule c.schema_of.result (meanings (g.M.Rows.means c.args.maker.now) c.args.parts.now) c.schema_of.ensures c.requires in
    absurd (r.sides_plain c.args.at _ c.if-at-sides.false then)

pub returns-in_err-test_of-clause-covered : goal.returns-in_err-test_of-clause-covered
returns-in_err-test_of-clause-covered g c enough =
    let r = reading c.args.rule c.schema_of.result (meanings (g.M.Rows.means c.args.maker.now) c.args.parts.now) c.schema_of.ensures c.requires in
    let no : false ≡ true = c.in_err-test_of.ensures.covered (room _ _ _ (r.sides_fit c.args.at _ c.if-at-sides.false) enough) in
    cc

pub returns-in_err-test_of-clause-spends : goal.returns-in_err-test_of-clause-spends
returns-in_err-test_of-clause-spends g c =
    let r = reading c.args.rule c.schema_of.result (meanings (g.M.Rows.means c.args.maker.now) c.args.parts.now) c.schema_of.ensures c.requires in
    spent _ _ _ _ (r.sides_fit c.args.at _ c.if-at-sides.false) c.test_of.ensures.spends

pub returns-clause-spends : goal.returns-clause-spends
returns-clause-spends g c =
    let r = reading c.args.rule c.schema_of.result (meanings (g.M.Rows.means c.args.maker.now) c.args.parts.now) c.schema_of.ensures c.requires in
    spent _ _ _ _ (r.sides_fit c.args.at _ c.if-at-sides.false) c.test_of.ensures.spends

pub returns-clause-some : goal.returns-clause-some
returns-clause-some g c =
    let r = reading c.args.rule c.schema_of.result (meanings (g.M.Rows.means c.args.maker.now) c.args.parts.now) c.schema_of.ensures c.requires in
    c.in_ok-test_of.ensures.test ∙ r.sides c.args.at _ c.if-at-sides.false

pub returns-clause-place : goal.returns-clause-place
returns-clause-place g c =
    let r = reading c.args.rule c.schema_of.result (meanings (g.M.Rows.means c.args.maker.now) c.args.parts.now) c.schema_of.ensures c.requires in
    omega (arith, r.sides_count, c.if-at-sides.false)
