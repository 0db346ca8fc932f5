use Rattle.std.proofs.Common.{◌<◌, ◌≤◌, suc, take, subst}
use Rattle.trees.specs.Operators.{kids_of}
use Rattle.closures.specs.Shown.{lists}
use Rattle.compare.specs.Pairs.{IsPair}
use Rattle.compare.specs.Kids.{kids_meant, KidsOpen}
use Rattle.compare.proofs.KidLaws.{kids-none}
use Rattle.compare.proofs.KidStep.{side, next-kid, kids-all}
use Rattle.compare.proofs.StandLaws.{after-none}
use Rattle.compare.proofs.walk.add_kids.Goals as goal

pub loop-at-init : goal.loop-at-init
loop-at-init g c = record {
  opened = kids-none (g.R.Rows.means c.args.rows.now) (lists c.args.environments.now) c.args.pairs.now.keys;
  stand = λ n left right. after-none (IsPair (g.R.Rows.means c.args.rows.now) (lists c.args.environments.now) (suc n)) c.args.pairs.now.keys;
}

pub loop-at-preserved : goal.loop-at-preserved
loop-at-preserved g c =
    let f = g.R.Rows.means c.args.rows.now in
    let known = lists c.args.environments.now in
    let left = c.args.left.now in
    let right = c.args.right.now in
    let lt : c.loop-at.at < kids_of c.args.op = rw (← c.kid_count-at-end.ensures) c.loop-at-test.true in
    let l = side f known _ c.args.op left.rows.now left.environment c.loop-at.at c.kid.result c.requires.left lt c.kid.ensures.row c.kid.ensures.list c.kid.ensures.within in
    let r = side f known _ c.args.op right.rows.now right.environment c.loop-at.at c.kid-in-loop-at.result c.requires.right lt c.kid-in-loop-at.ensures.row c.kid-in-loop-at.ensures.list c.kid-in-loop-at.ensures.within in
    let n = next-kid f known c.args.op left.rows.now right.rows.now left.environment right.environment c.loop-at.at _ c.args.pairs.now.keys c.loop-at.pairs.keys c.add_pair.new.pairs.keys l r c.loop-at.invariant.opened c.loop-at.invariant.stand c.in_ok-add_pair.ensures in
    record { opened = n.0; stand = n.1 }

pub returns-clause-opens : goal.returns-clause-opens
returns-clause-opens g c =
    let f = g.R.Rows.means c.args.rows.now in
    let known = lists c.args.environments.now in
    let left = c.args.left.now in
    let right = c.args.right.now in
    let le : kids_of c.args.op ≤ c.loop-at.at = rw (← c.kid_count-at-end.ensures) c.loop-at-test.false in
    let lefts = kids-all f known _ c.args.op left.rows.now left.environment c.loop-at.at c.requires.left le in
    let rights = kids-all f known _ c.args.op right.rows.now right.environment c.loop-at.at c.requires.right le in
    subst (λ xs. KidsOpen f known xs (kids_meant f known c.args.op right.rows.now right.environment) c.args.pairs.now.keys c.loop-at.pairs.keys) lefts
    (subst (λ ys. KidsOpen f known (take c.loop-at.at (kids_meant f known c.args.op left.rows.now left.environment)) ys c.args.pairs.now.keys c.loop-at.pairs.keys) rights c.loop-at.invariant.opened)
