use Rattle.std.proofs.Common.{◌≡◌, ◌<◌, ◌≤◌, ◌+◌, ◌-◌, ◌^◌, suc, length, ap, arith}
use Rattle.closures.specs.Shown.{lists}
use Rattle.closures.specs.Environments.{listed, node_list}
use Rattle.closures.specs.Weights.{row_weight, weight_of}
use Rattle.rows.proofs.TableLaws.{length-built}
use Rattle.closures.proofs.WeightLaws.{row_weight-pos, row_weight-one, row_weight-two}
use Rattle.closures.proofs.SubstLaws.{drops-first, drops-none, drops-push, drops-then, drops-past, drops-all, drops-fit}
use Rattle.closures.proofs.substs.subst_head.Goals as goal

pub loop-past-init : goal.loop-past-init
loop-past-init g c = drops-first (g.R.Rows.means c.args.rows.now) (lists c.args.environments.now) c.args.closure c.requires

pub passed-requires-clause-fits : goal.passed-requires-clause-fits
passed-requires-clause-fits g c =
    let l = c.loop-past in
    let few : length (lists l.environments) ≤ 2 ^ 64 = omega (arith, length-built node_list l.environments.nodes.keys, l.environments.few) in
    drops-fit l.invariant few

pub returns-in_default-first_waiting-clause-meaning : goal.returns-in_default-first_waiting-clause-meaning
returns-in_default-first_waiting-clause-meaning g c =
    drops-all c.loop-past.invariant c.in-Some.past c.in-Some.ensures c.in_default-first_waiting.ensures

pub loop-past-smaller-in-Some : goal.loop-past-smaller-in-Some
loop-past-smaller-in-Some g c =
    let now = lists c.loop-past.environments in
    let first = c.in-Some-first_waiting in
    let pos = row_weight-pos c.loop-past.row.0 in
    let weight : weight_of (listed now c.loop-past.environment) ≡ row_weight first.next.0 + weight_of (listed now first.rest) = ap weight_of first.ensures.list in
    let smaller : row_weight first.next.0 + weight_of (listed now first.rest) < row_weight c.loop-past.row.0 + weight_of (listed now c.loop-past.environment) = omega arith in
    smaller

pub loop-past-preserved-in-Some : goal.loop-past-preserved-in-Some
loop-past-preserved-in-Some g c =
    let first = c.in-Some-first_waiting in
    drops-past c.loop-past.invariant c.in-Some.past first.next first.rest c.in-Some.ensures first.ensures

pub returns-then-dropped-eq0-clause-meaning : goal.returns-then-dropped-eq0-clause-meaning
returns-then-dropped-eq0-clause-meaning g c =
    drops-none c.loop-past.invariant c.in-Push.next c.in-Push.tree c.if-dropped-eq0.true c.in-Push.ensures.meaning

pub loop-past-smaller-in-Push : goal.loop-past-smaller-in-Push
loop-past-smaller-in-Push g c =
    let ws = listed (lists c.loop-past.environments) c.loop-past.environment in
    let earlier : c.in-Push.next.0 < c.loop-past.row.0 = c.in-Push.ensures.earlier 0 0 (omega arith) in
    let less = row_weight-one c.in-Push.next.0 c.loop-past.row.0 earlier in
    let smaller : row_weight c.in-Push.next.0 + weight_of ws < row_weight c.loop-past.row.0 + weight_of ws = omega arith in
    smaller

pub loop-past-preserved-in-Push : goal.loop-past-preserved-in-Push
loop-past-preserved-in-Push g c =
    let more : c.loop-past.dropped ≡ suc (c.loop-past.dropped - 1) = omega (arith, c.if-dropped-eq0.false) in
    drops-push c.loop-past.invariant c.in-Push.next c.in-Push.tree (c.loop-past.dropped - 1) c.in-Push.ensures.meaning
    (c.in-Push.ensures.earlier 0 0 (omega arith)) more

pub loop-past-smaller : goal.loop-past-smaller
loop-past-smaller g c =
    let one = c.in-Then.first.0 in
    let two = c.in-Then.second.0 in
    let row = c.loop-past.row.0 in
    let ws = listed (lists c.loop-past.environments) c.loop-past.environment in
    let longer = listed (lists c.push.new.self) c.in_ok-environment-in-Then.environment in
    let less = row_weight-two one two row (c.in-Then.ensures.earlier 0 0 (omega arith)) (c.in-Then.ensures.earlier 1 0 (omega arith)) in
    let more : weight_of longer ≡ row_weight two + weight_of ws = ap weight_of c.in_ok-environment-in-Then.ensures.list in
    let smaller : row_weight one + weight_of longer < row_weight row + weight_of ws = omega arith in
    smaller

pub loop-past-preserved : goal.loop-past-preserved
loop-past-preserved g c =
    drops-then c.loop-past.invariant c.in-Then.first c.in-Then.second (lists c.push.new.self) c.in_ok-environment-in-Then.environment
    c.in-Then.ensures.meaning (c.in-Then.ensures.earlier 0 0 (omega arith)) (c.in-Then.ensures.earlier 1 0 (omega arith))
    c.push.ensures.grows c.in_ok-environment-in-Then.ensures.list c.in_ok-environment-in-Then.ensures.within
