use Rattle.std.proofs.Common.{◌+◌, arith, refl}
use Rattle.closures.specs.Shown.{lists}
use Rattle.compare.proofs.AgreeLaws.{walk-begin, walk-pair, walk-end, walk-no, walk-next, walk-smaller}
use Rattle.compare.proofs.walk.all_agree.Goals as goal

pub loop-at-init : goal.loop-at-init
loop-at-init g c = walk-begin (g.R.Rows.means c.args.rows.now) (lists c.args.environments.now) c.args.pairs.now.keys c.requires

pub settle_pair-requires : goal.settle_pair-requires
settle_pair-requires g c =
    let l = c.len.ensures.len in
    let s = c.len.ensures.small in
    walk-pair (g.R.Rows.means c.args.rows.now) (lists c.args.environments.now) c.args.pairs.now.keys (lists c.loop-at.environments) c.loop-at.at c.loop-at.pairs.keys c.loop-at.invariant 18446744073709551614 c.index-pair.result.now c.index-pair.ensures (omega arith)

pub returns-then-not-branch : goal.returns-then-not-branch
returns-then-not-branch g c = (
  λ no. cc,
  λ all. absurd (walk-no (g.R.Rows.means c.args.rows.now) (lists c.args.environments.now) c.args.pairs.now.keys (lists c.loop-at.environments) c.loop-at.at c.loop-at.pairs.keys c.loop-at.invariant c.index-pair.result.now c.index-pair.ensures (c.in_ok-settle_pair.ensures.no c.if-not-branch.true) all),
)

pub loop-at-smaller : goal.loop-at-smaller
loop-at-smaller g c = walk-smaller (g.R.Rows.means c.args.rows.now) (lists c.args.environments.now) c.args.pairs.now.keys (lists c.loop-at.environments) c.loop-at.at c.loop-at.pairs.keys c.loop-at.invariant (lists c.settle_pair.new.environments) c.settle_pair.new.pairs.keys c.index-pair.result.now c.index-pair.ensures c.settle_pair.ensures.grows (c.in_ok-settle_pair.ensures.yes c.if-not-branch.false) (c.loop-at.at + 1) (omega arith)

pub loop-at-preserved : goal.loop-at-preserved
loop-at-preserved g c = walk-next (g.R.Rows.means c.args.rows.now) (lists c.args.environments.now) c.args.pairs.now.keys (lists c.loop-at.environments) c.loop-at.at c.loop-at.pairs.keys c.loop-at.invariant (lists c.settle_pair.new.environments) c.settle_pair.new.pairs.keys c.index-pair.result.now c.index-pair.ensures c.settle_pair.ensures.grows (c.in_ok-settle_pair.ensures.yes c.if-not-branch.false) (c.loop-at.at + 1) (omega arith) (c.in_ok-settle_pair.ensures.stand c.if-not-branch.false)

pub returns : goal.returns
returns g c = (
  λ yes. walk-end (g.R.Rows.means c.args.rows.now) (lists c.args.environments.now) c.args.pairs.now.keys (lists c.loop-at.environments) c.loop-at.at c.loop-at.pairs.keys c.loop-at.invariant (let l = c.len.ensures.len in let t = c.loop-at-test.false in omega arith),
  λ all. refl,
)
