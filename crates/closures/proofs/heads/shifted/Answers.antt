use Rattle.std.proofs.Common.{◌≡◌, ◌+◌, ◌<◌, length, ◌∙◌, ap, subst, arith}
use Rattle.std.specs.List.{All}
use Rattle.std.proofs.lemmas.List.Elements.{All-head, All-tail}
use Rattle.closures.specs.Shown.{lists}
use Rattle.closures.specs.Environments.{Waiting, waiting, listed, IsWithin}
use Rattle.closures.specs.Closures.{IsDelayed}
use Rattle.closures.specs.Weights.{weight_of, delayed_weight}
use Rattle.closures.specs.declared.environments.Environment.TheVariants as env
use Rattle.closures.proofs.EnvironmentLaws.{before}
use Rattle.closures.proofs.WeightLaws.{delayed_weight-pos}
use Rattle.closures.proofs.WaitLaws.{meets-none, meets-first, node-first, waits-none, waits-left}
use Rattle.closures.proofs.heads.shifted.Goals as goal

pub loop-rest-init : goal.loop-rest-init
loop-rest-init g c = record {
  within = c.requires.within;
  substs = c.requires.substs;
  meets = meets-none (g.R.Rows.means c.args.rows.now) c.args.shift (listed (lists c.args.environments.now) c.args.rest);
}

pub node-node-requires : goal.node-node-requires
node-node-requires g c =
    let n = c.in-Node-default-eq0 in
    before n.at (length (lists c.args.environments.now)) (subst (IsWithin (lists c.args.environments.now)) n.is c.loop-rest.invariant.within)

pub shift_past-requires : goal.shift_past-requires
shift_past-requires g c =
    let n = c.in-Node-default-eq0 in
    let zero : n.field-1 ≡ 0 = search in
    let node = c.node-node.result in
    let known = lists c.args.environments.now in
    let P : Waiting → Type 0 = λ w. IsDelayed (g.R.Rows.means c.args.rows.now) w.delayed in
    let first = node-first known c.loop-rest.rest node.rest n.at node.delayed (n.is ∙ ap (env.Node n.at) zero) c.node-node.ensures.list in
    All-head P (waiting 0 node.delayed) (listed known node.rest) (subst (All P) first c.loop-rest.invariant.substs)

pub loop-rest-smaller : goal.loop-rest-smaller
loop-rest-smaller g c =
    let n = c.in-Node-default-eq0 in
    let zero : n.field-1 ≡ 0 = search in
    let node = c.node-node.result in
    let known = lists c.args.environments.now in
    let first = node-first known c.loop-rest.rest node.rest n.at node.delayed (n.is ∙ ap (env.Node n.at) zero) c.node-node.ensures.list in
    let weighs : weight_of (listed known c.loop-rest.rest) ≡ delayed_weight node.delayed + weight_of (listed known node.rest) = ap weight_of first in
    let some = delayed_weight-pos node.delayed in
    let less : weight_of (listed known node.rest) < weight_of (listed known c.loop-rest.rest) = omega arith in
    less

pub loop-rest-preserved : goal.loop-rest-preserved
loop-rest-preserved g c =
    let n = c.in-Node-default-eq0 in
    let zero : n.field-1 ≡ 0 = search in
    let node = c.node-node.result in
    let known = lists c.args.environments.now in
    let f = g.R.Rows.means c.args.rows.now in
    let P : Waiting → Type 0 = λ w. IsDelayed f w.delayed in
    let first = node-first known c.loop-rest.rest node.rest n.at node.delayed (n.is ∙ ap (env.Node n.at) zero) c.node-node.ensures.list in
    record {
      within = c.node-node.ensures.within;
      substs = All-tail P (waiting 0 node.delayed) (listed known node.rest) (subst (All P) first c.loop-rest.invariant.substs);
      meets = meets-first f c.args.shift c.loop-rest.shift c.in-Some.both (listed known c.args.rest) (listed known c.loop-rest.rest) (listed known node.rest) node.delayed
          c.loop-rest.invariant.meets first c.in-Some.ensures;
    }

pub returns-then-shift-eq0-clause-list : goal.returns-then-shift-eq0-clause-list
returns-then-shift-eq0-clause-list g c =
    let none : c.loop-rest.shift ≡ 0 = search in
    waits-none (g.R.Rows.means c.args.rows.now) c.args.shift c.loop-rest.shift (listed (lists c.args.environments.now) c.args.rest) (listed (lists c.args.environments.now) c.loop-rest.rest)
    c.loop-rest.invariant.meets none

pub returns-then-shift-eq0-clause-within : goal.returns-then-shift-eq0-clause-within
returns-then-shift-eq0-clause-within g c = c.loop-rest.invariant.within

pub push-requires : goal.push-requires
push-requires g c = c.loop-rest.invariant.within

pub returns-clause-list : goal.returns-clause-list
returns-clause-list g c =
    waits-left (g.R.Rows.means c.args.rows.now) c.args.shift c.loop-rest.shift (listed (lists c.args.environments.now) c.args.rest) (listed (lists c.args.environments.now) c.loop-rest.rest)
    (listed (lists c.push.new.self) c.in_ok-push.field-0) c.loop-rest.invariant.meets c.in_ok-push.ensures.list
