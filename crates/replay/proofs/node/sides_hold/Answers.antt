use Rattle.std.proofs.Common.{◌<◌, length, sym, subst, arith, refl}
use Rattle.std.specs.Prelude.{slice_get, IsSome}
use Rattle.trees.specs.Things.{Kept, meanings}
use Rattle.trees.proofs.Meanings.{kept-same}
use Rattle.rows.specs.Shown.{things}
use Rattle.side_conditions.specs.Kept.{KeepsBelow}
use Rattle.rules.specs.Claims.{sides_in}
use Rattle.replay.specs.Premises.{rule_at_rows}
use Rattle.replay.proofs.SideLaws.{cut-back, keeps-on, keeps-back, keeps-end, side_some, few, sides_begin, side_more, side_fails, sides_end}
use Rattle.replay.proofs.node.sides_hold.Goals as goal

pub loop-test-init : goal.loop-test-init
loop-test-init c = (refl, c.requires.keeps, sides_begin (rule_at_rows (things c.args.store.now) c.args.rule c.args.rows.now))

pub decide-requires-clause-test : goal.decide-requires-clause-test
decide-requires-clause-test c =
    let r = rule_at_rows (things c.loop-test.store) c.args.rule c.args.rows.now in
    let some = rw c.in-Some.is at c.in_ok-test.ensures.some in
    let place = rw c.in-Some.is at c.in_ok-test.ensures.place in
    subst IsSome (sym some) (side_some r c.loop-test.at place)

pub decide-requires-clause-keeps : goal.decide-requires-clause-keeps
decide-requires-clause-keeps c =
    keeps-on (things c.args.store.now) (things c.loop-test.store) (things c.side.new.maker) c.len-len.result c.loop-test.invariant.0 c.len-len.ensures c.side.ensures.kept c.loop-test.sides c.loop-test.invariant.1

pub overflow_add-at : goal.overflow_add-at
overflow_add-at c =
    let place = rw c.in-Some.is at c.in_ok-test.ensures.place in
    omega (arith, place, few c.args.rule (meanings (slice_get (things c.loop-test.store)) c.args.rows.now))

pub loop-test-smaller : goal.loop-test-smaller
loop-test-smaller c =
    let r = rule_at_rows (things c.args.store.now) c.args.rule c.args.rows.now in
    let place : c.loop-test.at < sides_in r = rw (c.in-Some.is, c.loop-test.invariant.0) at c.in_ok-test.ensures.place in
    omega arith

pub loop-test-preserved : goal.loop-test-preserved
loop-test-preserved c =
    let xs = things c.args.store.now in
    let zs = things c.loop-test.store in
    let ys = things c.side.new.maker in
    let r = rule_at_rows xs c.args.rule c.args.rows.now in
    let some = rw (c.in-Some.is, c.loop-test.invariant.0) at c.in_ok-test.ensures.some in
    let place = rw (c.in-Some.is, c.loop-test.invariant.0) at c.in_ok-test.ensures.place in (
      cut-back xs zs ys c.len-len.result c.loop-test.invariant.0 c.len-len.ensures c.side.ensures.kept (things c.truncate.new.self) c.truncate.ensures,
      keeps-back xs zs ys c.len-len.result c.loop-test.invariant.0 c.len-len.ensures c.side.ensures.kept c.decide.new.self c.decide.ensures.keeps,
      side_more r c.loop-test.at _ c.in_ok-holds.holds some place c.in_ok-holds.ensures.holds c.if-not-holds.false c.loop-test.invariant.2,
    )

pub returns-then-not-holds-clause-same : goal.returns-then-not-holds-clause-same
returns-then-not-holds-clause-same c =
    cut-back (things c.args.store.now) (things c.loop-test.store) (things c.side.new.maker) c.len-len.result c.loop-test.invariant.0 c.len-len.ensures c.side.ensures.kept (things c.truncate.new.self) c.truncate.ensures

pub returns-then-not-holds-clause-kept : goal.returns-then-not-holds-clause-kept
returns-then-not-holds-clause-kept c =
    let xs = things c.args.store.now in
    let same = cut-back xs (things c.loop-test.store) (things c.side.new.maker) c.len-len.result c.loop-test.invariant.0 c.len-len.ensures c.side.ensures.kept (things c.truncate.new.self) c.truncate.ensures in
    subst (λ ys. Kept (slice_get xs) (slice_get ys)) (sym same) (kept-same (slice_get xs))

pub returns-then-not-holds-clause-keeps : goal.returns-then-not-holds-clause-keeps
returns-then-not-holds-clause-keeps c =
    let xs = things c.args.store.now in
    let zs = things c.loop-test.store in
    let ys = things c.side.new.maker in
    let n = c.len-len.result in
    let inv = c.loop-test.invariant.0 in
    let same = cut-back xs zs ys n inv c.len-len.ensures c.side.ensures.kept (things c.truncate.new.self) c.truncate.ensures in
    subst (λ ws. KeepsBelow (length ws) (slice_get ws) c.decide.new.self) (sym same) (keeps-back xs zs ys n inv c.len-len.ensures c.side.ensures.kept c.decide.new.self c.decide.ensures.keeps)

pub returns-then-not-holds-clause-hold : goal.returns-then-not-holds-clause-hold
returns-then-not-holds-clause-hold c =
    let r = rule_at_rows (things c.args.store.now) c.args.rule c.args.rows.now in
    let some = rw (c.in-Some.is, c.loop-test.invariant.0) at c.in_ok-test.ensures.some in
    let place = rw (c.in-Some.is, c.loop-test.invariant.0) at c.in_ok-test.ensures.place in
    (λ no. cc, λ all. absurd (side_fails r c.loop-test.at _ c.in_ok-holds.holds some place c.in_ok-holds.ensures.holds c.if-not-holds.true all))

pub returns-clause-same : goal.returns-clause-same
returns-clause-same c =
    cut-back (things c.args.store.now) (things c.loop-test.store) (things c.side.new.maker) c.len-len.result c.loop-test.invariant.0 c.len-len.ensures c.side.ensures.kept (things c.truncate-2.new.self) c.truncate-2.ensures

pub returns-clause-kept : goal.returns-clause-kept
returns-clause-kept c =
    let xs = things c.args.store.now in
    let same = cut-back xs (things c.loop-test.store) (things c.side.new.maker) c.len-len.result c.loop-test.invariant.0 c.len-len.ensures c.side.ensures.kept (things c.truncate-2.new.self) c.truncate-2.ensures in
    subst (λ ys. Kept (slice_get xs) (slice_get ys)) (sym same) (kept-same (slice_get xs))

pub returns-clause-keeps : goal.returns-clause-keeps
returns-clause-keeps c =
    let xs = things c.args.store.now in
    let same = cut-back xs (things c.loop-test.store) (things c.side.new.maker) c.len-len.result c.loop-test.invariant.0 c.len-len.ensures c.side.ensures.kept (things c.truncate-2.new.self) c.truncate-2.ensures in
    subst (λ ws. KeepsBelow (length ws) (slice_get ws) c.loop-test.sides) (sym same) c.loop-test.invariant.1

pub returns-clause-hold : goal.returns-clause-hold
returns-clause-hold c =
    let r = rule_at_rows (things c.args.store.now) c.args.rule c.args.rows.now in
    let none = rw (c.in_default.is, c.loop-test.invariant.0) at c.in_ok-test.ensures.none in
    (λ yes. sides_end r c.loop-test.at none c.loop-test.invariant.2, λ all. refl)

pub returns-in_err-test-clause-keeps : goal.returns-in_err-test-clause-keeps
returns-in_err-test-clause-keeps c =
    let xs = things c.args.store.now in
    let ys = things c.side.new.maker in
    let n = c.len-len.result in
    keeps-end xs (things c.loop-test.store) ys n c.loop-test.invariant.0 c.len-len.ensures c.side.ensures.kept c.loop-test.sides (keeps-on xs (things c.loop-test.store) ys n c.loop-test.invariant.0 c.len-len.ensures c.side.ensures.kept c.loop-test.sides c.loop-test.invariant.1)

pub returns-in_err-holds-clause-keeps : goal.returns-in_err-holds-clause-keeps
returns-in_err-holds-clause-keeps c =
    keeps-end (things c.args.store.now) (things c.loop-test.store) (things c.side.new.maker) c.len-len.result c.loop-test.invariant.0 c.len-len.ensures c.side.ensures.kept c.decide.new.self c.decide.ensures.keeps
