use Rattle.std.proofs.Common.{◌+◌, ◌-◌, ◌≤◌, length, reverse, arith}
use Rattle.std.proofs.lemmas.List.{length-reverse}
use Rattle.rows.proofs.TableLaws.{grows-same}
use Rattle.closures.specs.Environments.{deepest}
use Rattle.closures.specs.Shown.{lists}
use Rattle.closures.proofs.HeadLaws.{closure-deeper}
use Rattle.side_conditions.specs.Shapes.{tree_of}
use Rattle.tree_texts.specs.declared.tasks.Task.TheVariants as task
use Rattle.tree_texts.specs.Layouts.{text_as}
use Rattle.tree_frames.proofs.FrameLaws.{frame-deeper}
use Rattle.tree_texts.proofs.WriteLaws.{Next, next-task, next-opened}
use Rattle.tree_texts.proofs.texts.text_of.Given as given
use Rattle.tree_texts.proofs.texts.text_of.Goals as goal
use Rattle.tree_texts.proofs.texts.text_of.Goals.{In-Write, In-Rest, In-System, In-Further}

writes : (g : given.Over) (c : In-Write g) → Next (g.R.Rows.means c.args.rows.now) c.args.level (text_as c.args.sort c.args.level (tree_of (g.R.Rows.means c.args.rows.now c.args.term.0))) (lists c.loop-task.environments) c.loop-task.text.items c.loop-task.tasks.items c.pop.new.self.items (task.Write c.in-Write.sort c.in-Write.level c.in-Write.closure)
writes g c = next-task c.in-Some.ensures.items c.in-Write.is c.loop-task.invariant

rests : (g : given.Over) (c : In-Rest g) → Next (g.R.Rows.means c.args.rows.now) c.args.level (text_as c.args.sort c.args.level (tree_of (g.R.Rows.means c.args.rows.now c.args.term.0))) (lists c.loop-task.environments) c.loop-task.text.items c.loop-task.tasks.items c.pop.new.self.items (task.Rest c.in-Rest.frame)
rests g c = next-task c.in-Some.ensures.items c.in-Rest.is c.loop-task.invariant

begins : (g : given.Over) (c : In-System g) → Next (g.R.Rows.means c.args.rows.now) c.args.level (text_as c.args.sort c.args.level (tree_of (g.R.Rows.means c.args.rows.now c.args.term.0))) (lists c.loop-task.environments) c.loop-task.text.items c.loop-task.tasks.items c.pop.new.self.items (task.System c.in-System.sides)
begins g c = next-task c.in-Some.ensures.items c.in-System.is c.loop-task.invariant

goes-on : (g : given.Over) (c : In-Further g) → Next (g.R.Rows.means c.args.rows.now) c.args.level (text_as c.args.sort c.args.level (tree_of (g.R.Rows.means c.args.rows.now c.args.term.0))) (lists c.loop-task.environments) c.loop-task.text.items c.loop-task.tasks.items c.pop.new.self.items (task.Further c.in-Further.sides)
goes-on g c = next-task c.in-Some.ensures.items c.in-Further.is c.loop-task.invariant

pub loop-task-smaller-in-Continue-branch-2 : goal.loop-task-smaller-in-Continue-branch-2
loop-task-smaller-in-Continue-branch-2 g c =
    (next-opened (writes g (goal.at.loop-task-smaller-in-Continue-branch-2 g c).In-Write) (lists c.open.new.environments) c.open.new.into.items c.open.new.tasks.items c.in_ok-open-in-Write.ensures.grows c.in_ok-open-in-Write.ensures.opens).1

pub loop-task-preserved-in-Continue-branch-2 : goal.loop-task-preserved-in-Continue-branch-2
loop-task-preserved-in-Continue-branch-2 g c =
    (next-opened (writes g (goal.at.loop-task-preserved-in-Continue-branch-2 g c).In-Write) (lists c.open.new.environments) c.open.new.into.items c.open.new.tasks.items c.in_ok-open-in-Write.ensures.grows c.in_ok-open-in-Write.ensures.opens).0

pub go_on-requires-clause-stands : goal.go_on-requires-clause-stands
go_on-requires-clause-stands g c =
    let rest = c.pop.new.self.items in
    let few : length (reverse rest) ≤ deepest - 1 = let l = length-reverse rest in let o = c.pop.new.self.ok in let m = c.pop.new.self.small in omega arith in
    frame-deeper (g.R.Rows.means c.args.rows.now) (lists c.loop-task.environments) (0 + length (reverse rest)) (deepest - 1) c.in-Rest.frame (omega (arith, few))
    (rests g (goal.at.go_on-requires-clause-stands g c).In-Rest).writes.stand.0.1

pub loop-task-smaller-in-Continue-branch-3 : goal.loop-task-smaller-in-Continue-branch-3
loop-task-smaller-in-Continue-branch-3 g c =
    (next-opened (rests g (goal.at.loop-task-smaller-in-Continue-branch-3 g c).In-Rest) (lists c.loop-task.environments) c.go_on.new.into.items c.go_on.new.tasks.items (grows-same (lists c.loop-task.environments)) c.in_ok-go_on-in-Rest.ensures).1

pub loop-task-smaller-in-Continue-branch-4 : goal.loop-task-smaller-in-Continue-branch-4
loop-task-smaller-in-Continue-branch-4 g c =
    (next-opened (begins g (goal.at.loop-task-smaller-in-Continue-branch-4 g c).In-System) (lists c.open_sides.new.environments) c.open_sides.new.into.items c.open_sides.new.tasks.items c.in_ok-open_sides-in-System.ensures.grows c.in_ok-open_sides-in-System.ensures.opens).1

pub loop-task-smaller-in-Continue-branch-5 : goal.loop-task-smaller-in-Continue-branch-5
loop-task-smaller-in-Continue-branch-5 g c =
    (next-opened (goes-on g (goal.at.loop-task-smaller-in-Continue-branch-5 g c).In-Further) (lists c.open_sides-in-Further.new.environments) c.open_sides-in-Further.new.into.items c.open_sides-in-Further.new.tasks.items c.in_ok-open_sides-in-Further.ensures.grows c.in_ok-open_sides-in-Further.ensures.opens).1

pub loop-task-preserved-in-Continue-branch-3 : goal.loop-task-preserved-in-Continue-branch-3
loop-task-preserved-in-Continue-branch-3 g c =
    (next-opened (rests g (goal.at.loop-task-preserved-in-Continue-branch-3 g c).In-Rest) (lists c.loop-task.environments) c.go_on.new.into.items c.go_on.new.tasks.items (grows-same (lists c.loop-task.environments)) c.in_ok-go_on-in-Rest.ensures).0

pub loop-task-preserved-in-Continue-branch-4 : goal.loop-task-preserved-in-Continue-branch-4
loop-task-preserved-in-Continue-branch-4 g c =
    (next-opened (begins g (goal.at.loop-task-preserved-in-Continue-branch-4 g c).In-System) (lists c.open_sides.new.environments) c.open_sides.new.into.items c.open_sides.new.tasks.items c.in_ok-open_sides-in-System.ensures.grows c.in_ok-open_sides-in-System.ensures.opens).0

pub loop-task-preserved-in-Continue-branch-5 : goal.loop-task-preserved-in-Continue-branch-5
loop-task-preserved-in-Continue-branch-5 g c =
    (next-opened (goes-on g (goal.at.loop-task-preserved-in-Continue-branch-5 g c).In-Further) (lists c.open_sides-in-Further.new.environments) c.open_sides-in-Further.new.into.items c.open_sides-in-Further.new.tasks.items c.in_ok-open_sides-in-Further.ensures.grows c.in_ok-open_sides-in-Further.ensures.opens).0

pub open_sides-requires-clause-body : goal.open_sides-requires-clause-body
open_sides-requires-clause-body g c =
    let rest = c.pop.new.self.items in
    let few : length (reverse rest) ≤ deepest - 1 = let l = length-reverse rest in let o = c.pop.new.self.ok in let m = c.pop.new.self.small in omega arith in
    closure-deeper (g.R.Rows.means c.args.rows.now) (lists c.loop-task.environments) (0 + length (reverse rest)) (deepest - 1) c.in-System.sides.body (omega (arith, few))
    (begins g (goal.at.open_sides-requires-clause-body g c).In-System).writes.stand.0.1

pub open_sides-requires-clause-second : goal.open_sides-requires-clause-second
open_sides-requires-clause-second g c =
    let rest = c.pop.new.self.items in
    let few : length (reverse rest) ≤ deepest - 1 = let l = length-reverse rest in let o = c.pop.new.self.ok in let m = c.pop.new.self.small in omega arith in
    closure-deeper (g.R.Rows.means c.args.rows.now) (lists c.loop-task.environments) (0 + length (reverse rest)) (deepest - 1) c.in-System.sides.second (omega (arith, few))
    (begins g (goal.at.open_sides-requires-clause-second g c).In-System).writes.stand.0.2

pub open_sides-requires-in-Further-clause-body : goal.open_sides-requires-in-Further-clause-body
open_sides-requires-in-Further-clause-body g c =
    let rest = c.pop.new.self.items in
    let few : length (reverse rest) ≤ deepest - 1 = let l = length-reverse rest in let o = c.pop.new.self.ok in let m = c.pop.new.self.small in omega arith in
    closure-deeper (g.R.Rows.means c.args.rows.now) (lists c.loop-task.environments) (0 + length (reverse rest)) (deepest - 1) c.in-Further.sides.body (omega (arith, few))
    (goes-on g (goal.at.open_sides-requires-in-Further-clause-body g c).In-Further).writes.stand.0.1

pub open_sides-requires-in-Further-clause-second : goal.open_sides-requires-in-Further-clause-second
open_sides-requires-in-Further-clause-second g c =
    let rest = c.pop.new.self.items in
    let few : length (reverse rest) ≤ deepest - 1 = let l = length-reverse rest in let o = c.pop.new.self.ok in let m = c.pop.new.self.small in omega arith in
    closure-deeper (g.R.Rows.means c.args.rows.now) (lists c.loop-task.environments) (0 + length (reverse rest)) (deepest - 1) c.in-Further.sides.second (omega (arith, few))
    (goes-on g (goal.at.open_sides-requires-in-Further-clause-second g c).In-Further).writes.stand.0.2
