use Rattle.std.proofs.Common.{◌<◌, ◌≤◌, length, arith}
use Rattle.rows.specs.Shown.{things}
use Rattle.replay.proofs.NamedLaws.{one_name, all_names, wrong_name}
use Rattle.replay.proofs.named.named_rows.Goals as goal

pub returns-in_default-clause-none : goal.returns-in_default-clause-none
returns-in_default-clause-none c =
    let within : c.loop-at.at < length c.args.kinds.now = omega (arith, c.loop-at-test.true, c.requires.count) in
    wrong_name (things c.args.store.now) c.args.filed.now c.args.numbers.now c.args.kinds.now c.loop-at.at _ c.loop-at-test.true within c.in_default.ensures.none

pub loop-at-preserved : goal.loop-at-preserved
loop-at-preserved c =
    let within : c.loop-at.at < length c.args.kinds.now = omega (arith, c.loop-at-test.true, c.requires.count) in
    one_name (things c.args.store.now) c.args.filed.now c.args.numbers.now c.args.kinds.now c.loop-at.at c.loop-at.rows.items c.push.new.self.items c.in-Some.row _ c.loop-at-test.true within c.loop-at.invariant c.in_ok-push.ensures.items c.in-Some.ensures.some

pub returns-clause-some : goal.returns-clause-some
returns-clause-some c =
    let le : length c.args.numbers.now ≤ c.loop-at.at = c.loop-at-test.false in
    all_names (things c.args.store.now) c.args.filed.now c.args.numbers.now c.args.kinds.now c.loop-at.at c.loop-at.rows.items c.requires.count le c.loop-at.invariant
