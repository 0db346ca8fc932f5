use Rattle.std.proofs.Common.{◌≡◌, ◌-◌, true, false, refl, sym, subst, arith}
use Rattle.trees.specs.Trees.{trees_of}
use Rattle.rows.proofs.TableLaws.{grows-same}
use Rattle.closures.specs.Environments.{deepest}
use Rattle.closures.specs.Shown.{lists}
use Rattle.fixed_names.specs.Shown.{fixed_by}
use Rattle.tree_frames.specs.Frames.{tree_in, frame_trees, FrameStands, OpensTo, OpensFrame}
use Rattle.normal_parts.proofs.TellLaws.{yes-is}
use Rattle.normality.proofs.OpenLaws.{part-variable, part-no-place, part-opened}
use Rattle.normality.proofs.openings.open_part.Given as given
use Rattle.normality.proofs.openings.open_part.Goals as goal
use Rattle.normality.proofs.openings.open_part.Goals.{In-Operator}

opens : (g : given.Over) (c : In-Operator g) → OpensFrame (g.R.Rows.means c.args.rows.now) (lists c.args.environments.now) (lists c.open_tree.new.environments) c.args.part.closure 0 c.in-Operator.frame
opens g c = subst (OpensTo (g.R.Rows.means c.args.rows.now) (lists c.args.environments.now) (lists c.open_tree.new.environments) c.args.part.closure 0) c.in-Operator.is c.in_ok-index.ensures.opens

pub returns-in-Variable-clause-tells : goal.returns-in-Variable-clause-tells
returns-in-Variable-clause-tells g c =
    let f = g.R.Rows.means c.args.rows.now in
    let old = lists c.args.environments.now in
    let new = lists c.open_tree.new.environments in
    let is = subst (OpensTo f old new c.args.part.closure 0) c.in-Variable.is c.in_ok-index.ensures.opens in
    part-variable f old new (fixed_by c.args.scopes.now) c.args.part c.in-Variable.index c.args.tests.now.items c.is_free.result is (yes-is _ c.is_free.ensures) c.is_free.ensures.1

pub returns-then-not-may_stand-clause-tells : goal.returns-then-not-may_stand-clause-tells
returns-then-not-may_stand-clause-tells g c =
    let f = g.R.Rows.means c.args.rows.now in
    let new = lists c.open_tree.new.environments in
    let o = opens g (goal.at.returns-then-not-may_stand-clause-tells g c).In-Operator in
    part-no-place f (lists c.args.environments.now) new (fixed_by c.args.scopes.now) c.args.part c.in-Operator.frame c.args.tests.now.items c.args.tests.now.items o
    (λ may. let told = (c.if-not-may_stand.ensures (trees_of (frame_trees f new c.in-Operator.frame))).1 may in cc)

pub open_frame-requires-clause-stands : goal.open_frame-requires-clause-stands
open_frame-requires-clause-stands g c =
    let o = opens g (goal.at.open_frame-requires-clause-stands g c).In-Operator in
    record { count = o.frame.count; rows = o.frame.rows; environment_stands = o.stands (deepest - 2) c.requires.stands }

pub open_frame-requires-clause-start : goal.open_frame-requires-clause-start
open_frame-requires-clause-start g c = (opens g (goal.at.open_frame-requires-clause-start g c).In-Operator).start

pub returns-in_ok-open_frame-in-Operator-clause-tells : goal.returns-in_ok-open_frame-in-Operator-clause-tells
returns-in_ok-open_frame-in-Operator-clause-tells g c =
    let f = g.R.Rows.means c.args.rows.now in
    let mid = lists c.open_tree.new.environments in
    let z = fixed_by c.args.scopes.now in
    let o = opens g (goal.at.returns-in_ok-open_frame-in-Operator-clause-tells g c).In-Operator in
    part-opened f (lists c.args.environments.now) mid (lists c.open_frame.new.environments) z c.args.part c.in-Operator.frame c.args.tests.now.items c.push.new.self.items c.open_frame.new.tests.items c.in_ok-open_frame-in-Operator.field-0
    c.open_tree.ensures.grows c.open_frame.ensures.grows (deepest - 2) c.requires.stands c.requires.within (grows-same z) o
    ((c.if-not-may_stand.ensures (trees_of (frame_trees f mid c.in-Operator.frame))).0 refl) c.in_ok-push-in-Operator.ensures.items c.in_ok-open_frame-in-Operator.ensures.tells
