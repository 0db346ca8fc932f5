use Rattle.std.proofs.Common.{◌≡◌, ◌-◌, refl, sym, subst, rules, true, false}
use denote.Enum.Bare.{same_true, same_false}
use Rattle.trees.specs.declared.op.Op.TheVariants as op
use Rattle.trees.specs.contracts.op.Op.{the_type}
use Rattle.trees.specs.Trees.{trees_of}
use Rattle.closures.specs.Environments.{deepest}
use Rattle.closures.specs.Shown.{lists}
use Rattle.tree_frames.specs.Frames.{tree_in, frame_trees, OpensTo, OpensFrame}
use Rattle.normal_formulas.proofs.OrderLaws.{not-told}
use Rattle.normal_parts.proofs.NumberLaws.{Along, along-begin, frame-is, term-stands, along-no, along-next, sides-variable, sides-other}
use Rattle.normal_parts.proofs.TellLaws.{yes-is, no-is, is-no, is-yes}
use Rattle.normal_parts.proofs.numbers.sides_begin.Given as given
use Rattle.normal_parts.proofs.numbers.sides_begin.Goals as goal
use Rattle.normal_parts.proofs.numbers.sides_begin.Goals.{In-Operator}

opens : (g : given.Over) (c : In-Operator g) → OpensFrame (g.R.Rows.means c.args.rows.now) (lists c.loop-frame.environments) (lists c.open_tree.new.environments) c.loop-frame.rest 0 c.in-Operator.frame
opens g c = subst (OpensTo (g.R.Rows.means c.args.rows.now) (lists c.loop-frame.environments) (lists c.open_tree.new.environments) c.loop-frame.rest 0) c.in-Operator.is c.in_ok-frame.ensures.opens

pub loop-frame-init : goal.loop-frame-init
loop-frame-init g c = along-begin (g.R.Rows.means c.args.rows.now) (lists c.args.environments.now) (deepest - 1) c.args.op c.args.body c.requires

pub returns-in_default-clause-tells : goal.returns-in_default-clause-tells
returns-in_default-clause-tells g c =
    let f = g.R.Rows.means c.args.rows.now in
    let known = lists c.loop-frame.environments in
    let new = lists c.open_tree.new.environments in
    let is = subst (OpensTo f known new c.loop-frame.rest 0) c.in_default.is c.in_ok-frame.ensures.opens in
    is-yes (c.loop-frame.invariant.from (sides-variable c.args.op c.in_default.field-0 (tree_in f known c.loop-frame.rest) is))

pub returns-then-ne-clause-tells : goal.returns-then-ne-clause-tells
returns-then-ne-clause-tells g c =
    let f = g.R.Rows.means c.args.rows.now in
    let known = lists c.loop-frame.environments in
    let new = lists c.open_tree.new.environments in
    let o = opens g (goal.at.returns-then-ne-clause-tells g c).In-Operator in
    is-yes (c.loop-frame.invariant.from (sides-other c.args.op c.in-Operator.frame.op (trees_of (frame_trees f new c.in-Operator.frame)) (tree_in f known c.loop-frame.rest) o.frame.whole (same_false the_type c.in-Operator.frame.op op.Sys (not-told _ true c.if-ne.ensures))))

pub kid_of-term-requires-clause-stands : goal.kid_of-term-requires-clause-stands
kid_of-term-requires-clause-stands g c =
    let m = (goal.at.kid_of-term-requires-clause-stands g c).In-Operator in
    frame-is (g.R.Rows.means c.args.rows.now) (lists c.args.environments.now) (lists c.loop-frame.environments) (lists c.open_tree.new.environments) (deepest - 1) c.args.op c.args.body c.loop-frame.rest c.in-Operator.frame c.loop-frame.invariant (opens g m)

pub kid_of-rest-requires-clause-stands : goal.kid_of-rest-requires-clause-stands
kid_of-rest-requires-clause-stands g c =
    let m = (goal.at.kid_of-rest-requires-clause-stands g c).In-Operator in
    frame-is (g.R.Rows.means c.args.rows.now) (lists c.args.environments.now) (lists c.loop-frame.environments) (lists c.open_tree.new.environments) (deepest - 1) c.args.op c.args.body c.loop-frame.rest c.in-Operator.frame c.loop-frame.invariant (opens g m)

pub begins-requires : goal.begins-requires
begins-requires g c =
    let m = (goal.at.begins-requires g c).In-Operator in
    term-stands (g.R.Rows.means c.args.rows.now) (lists c.args.environments.now) (lists c.loop-frame.environments) (lists c.open_tree.new.environments) (deepest - 1) c.args.op c.args.body c.loop-frame.rest c.in-Operator.frame c.loop-frame.invariant (opens g m)
    c.kid_of-term.result c.kid_of-rest.result (same_true the_type (search rules) c.in-Operator.frame.op op.Sys (not-told _ false c.if-ne.ensures)) c.kid_of-term.ensures c.kid_of-rest.ensures

pub returns-then-not-branch-clause-tells : goal.returns-then-not-branch-clause-tells
returns-then-not-branch-clause-tells g c =
    let m = (goal.at.returns-then-not-branch-clause-tells g c).In-Operator in
    is-no (along-no (g.R.Rows.means c.args.rows.now) (lists c.args.environments.now) (lists c.loop-frame.environments) (lists c.open_tree.new.environments) (deepest - 1) c.args.op c.args.body c.loop-frame.rest c.in-Operator.frame c.loop-frame.invariant (opens g m)
    c.kid_of-term.result c.kid_of-rest.result (same_true the_type (search rules) c.in-Operator.frame.op op.Sys (not-told _ false c.if-ne.ensures)) c.kid_of-term.ensures c.kid_of-rest.ensures
    (no-is _ c.in_ok-begins.ensures.tells c.if-not-branch.true))

pub loop-frame-smaller : goal.loop-frame-smaller
loop-frame-smaller g c =
    let m = (goal.at.loop-frame-smaller g c).In-Operator in
    (along-next (g.R.Rows.means c.args.rows.now) (lists c.args.environments.now) (lists c.loop-frame.environments) (lists c.open_tree.new.environments) (deepest - 1) c.args.op c.args.body c.loop-frame.rest c.in-Operator.frame c.loop-frame.invariant (opens g m)
    c.kid_of-term.result c.kid_of-rest.result (same_true the_type (search rules) c.in-Operator.frame.op op.Sys (not-told _ false c.if-ne.ensures)) c.kid_of-term.ensures c.kid_of-rest.ensures
    (lists c.begins.new.environments) c.open_tree.ensures.grows c.begins.ensures.grows (yes-is _ c.in_ok-begins.ensures.tells c.if-not-branch.false)).1

pub loop-frame-preserved : goal.loop-frame-preserved
loop-frame-preserved g c =
    let m = (goal.at.loop-frame-preserved g c).In-Operator in
    (along-next (g.R.Rows.means c.args.rows.now) (lists c.args.environments.now) (lists c.loop-frame.environments) (lists c.open_tree.new.environments) (deepest - 1) c.args.op c.args.body c.loop-frame.rest c.in-Operator.frame c.loop-frame.invariant (opens g m)
    c.kid_of-term.result c.kid_of-rest.result (same_true the_type (search rules) c.in-Operator.frame.op op.Sys (not-told _ false c.if-ne.ensures)) c.kid_of-term.ensures c.kid_of-rest.ensures
    (lists c.begins.new.environments) c.open_tree.ensures.grows c.begins.ensures.grows (yes-is _ c.in_ok-begins.ensures.tells c.if-not-branch.false)).0
