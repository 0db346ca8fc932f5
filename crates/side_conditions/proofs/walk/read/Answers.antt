use Rattle.std.proofs.Common.{◌≡◌, ◌-◌, ◌≤◌, [], ◌∷◌, ◌++◌, length, reverse, refl, sym, ◌∙◌, ap, subst, arith}
use Rattle.std.proofs.lemmas.List.{length-reverse}
use Rattle.rows.proofs.TableLaws.{grows-same}
use Rattle.closures.specs.Environments.{deepest}
use Rattle.closures.specs.Shown.{lists}
use Rattle.closures.proofs.HeadLaws.{closure-deeper}
use Rattle.side_conditions.specs.declared.tasks.Task.TheVariants as task
use Rattle.side_conditions.specs.Readings.{IsValued}
use Rattle.side_conditions.specs.Shown.{reading_at}
use Rattle.side_conditions.proofs.WalkLaws.{Walks, Next, none_left, walk_begins, walk_next, walk_skips, walk_asks, walk_adds, walk_combined, steps_skip, steps_add, steps_ask}
use Rattle.side_conditions.proofs.walk.read.Given as given
use Rattle.side_conditions.proofs.walk.read.Goals as goal
use Rattle.side_conditions.proofs.walk.read.Goals.{In-Read, In-Combine}

pub loop-task-init : goal.loop-task-init
loop-task-init g c = (
  walk_begins (IsValued c.args.detail) (g.R.Rows.means c.args.rows.now) c.args.names.now c.args.root (lists c.args.environments.now) (reading_at c.args.readings.now) c.push.new.self.items
      c.requires.stands c.requires.outermost c.requires.remembers
      (c.in_ok-push.ensures.items ∙ ap (λ xs. xs ++ task.Read c.args.root ∷ []) c.new-tasks.ensures.items),
  refl,
)

reads : (g : given.Over) (c : In-Read g) → Next (IsValued c.args.detail) (g.R.Rows.means c.args.rows.now) c.args.names.now c.args.root (lists c.args.environments.now) (reading_at c.args.readings.now) (lists c.loop-task.environments) (reading_at c.loop-task.readings) c.loop-task.tasks.items c.pop.new.self.items (task.Read c.in-Read.at)
reads g c = walk_next c.in-Some.ensures.items c.in-Read.is c.loop-task.invariant.0

pub shape_of-requires-in-Read-clause-stands : goal.shape_of-requires-in-Read-clause-stands
shape_of-requires-in-Read-clause-stands g c =
    let rest = c.pop.new.self.items in
    let few : length (reverse rest) ≤ deepest - 1 = let l = length-reverse rest in let o = c.pop.new.self.ok in let m = c.pop.new.self.small in omega arith in
    closure-deeper (g.R.Rows.means c.args.rows.now) (lists c.loop-task.environments) (length (reverse rest)) (deepest - 1) c.in-Read.at.closure few (reads g (goal.at.shape_of-requires-in-Read-clause-stands g c).In-Read).walks.stand.0.1

pub loop-task-preserved-then-contains : goal.loop-task-preserved-then-contains
loop-task-preserved-then-contains g c =
    (walk_skips (reads g (goal.at.loop-task-preserved-then-contains g c).In-Read) (sym c.contains.ensures ∙ c.if-contains.true), c.loop-task.invariant.1)

pub loop-task-smaller-then-contains : goal.loop-task-smaller-then-contains
loop-task-smaller-then-contains g c = steps_skip (reads g (goal.at.loop-task-smaller-then-contains g c).In-Read)

pub loop-task-preserved-in-Continue-branch-4 : goal.loop-task-preserved-in-Continue-branch-4
loop-task-preserved-in-Continue-branch-4 g c = (
  walk_asks (reads g (goal.at.loop-task-preserved-in-Continue-branch-4 g c).In-Read) c.ask.new.tasks.items c.in_ok-shape-in-Read.ensures.grows (rw c.in-Some-2.is at c.in_ok-shape-in-Read.ensures.shape) c.in_ok-ask-in-Some-2.ensures,
  c.loop-task.invariant.1,
)

pub loop-task-smaller-in-Continue-branch-4 : goal.loop-task-smaller-in-Continue-branch-4
loop-task-smaller-in-Continue-branch-4 g c =
    steps_ask (reads g (goal.at.loop-task-smaller-in-Continue-branch-4 g c).In-Read) c.ask.new.tasks.items c.in_ok-shape-in-Read.ensures.grows (rw c.in-Some-2.is at c.in_ok-shape-in-Read.ensures.shape) c.in_ok-ask-in-Some-2.ensures

pub loop-task-preserved-in-Continue-branch-5 : goal.loop-task-preserved-in-Continue-branch-5
loop-task-preserved-in-Continue-branch-5 g c =
    let rest = c.pop.new.self.items in
    let few : length (reverse rest) ≤ deepest = let l = length-reverse rest in let o = c.pop.new.self.ok in let m = c.pop.new.self.small in omega arith in (
      walk_adds (reads g (goal.at.loop-task-preserved-in-Continue-branch-5 g c).In-Read) c.in_ok-shape-in-Read.ensures.grows c.in_ok-insert-in-None.ensures.added (rw c.in-None.is at c.in_ok-shape-in-Read.ensures.shape) few,
      c.in_ok-insert-in-None.ensures.mark ∙ c.loop-task.invariant.1,
    )

pub loop-task-smaller-in-Continue-branch-5 : goal.loop-task-smaller-in-Continue-branch-5
loop-task-smaller-in-Continue-branch-5 g c =
    steps_add (reads g (goal.at.loop-task-smaller-in-Continue-branch-5 g c).In-Read) (lists c.shape_of.new.environments) c.in_ok-shape-in-Read.ensures.grows

combines : (g : given.Over) (c : In-Combine g) → Next (IsValued c.args.detail) (g.R.Rows.means c.args.rows.now) c.args.names.now c.args.root (lists c.args.environments.now) (reading_at c.args.readings.now) (lists c.loop-task.environments) (reading_at c.loop-task.readings) c.loop-task.tasks.items c.pop.new.self.items (task.Combine c.in-Combine.at c.in-Combine.shape)
combines g c = walk_next c.in-Some.ensures.items c.in-Combine.is c.loop-task.invariant.0

pub combined-requires : goal.combined-requires
combined-requires g c = (combines g (goal.at.combined-requires g c).In-Combine).walks.leads.0

pub loop-task-preserved : goal.loop-task-preserved
loop-task-preserved g c =
    let rest = c.pop.new.self.items in
    let few : length (reverse rest) ≤ deepest = let l = length-reverse rest in let o = c.pop.new.self.ok in let m = c.pop.new.self.small in omega arith in
    let next = combines g (goal.at.loop-task-preserved g c).In-Combine in (
      walk_adds next (grows-same (lists c.loop-task.environments)) c.in_ok-insert-in-Combine.ensures.added (walk_combined c.in_ok-reading-in-Combine.reading next c.in_ok-reading-in-Combine.ensures) few,
      c.in_ok-insert-in-Combine.ensures.mark ∙ c.loop-task.invariant.1,
    )

pub returns-clause-there : goal.returns-clause-there
returns-clause-there g c =
    let items = c.loop-task.tasks.items in
    let none : reverse items ≡ [] = none_left items c.loop-task.tasks.len c.loop-task.tasks.ok.0 c.in_default.ensures.cases.0 in
    (subst (Walks (IsValued c.args.detail) (g.R.Rows.means c.args.rows.now) c.args.names.now c.args.root (lists c.args.environments.now) (reading_at c.args.readings.now) (lists c.loop-task.environments) (reading_at c.loop-task.readings)) none c.loop-task.invariant.0).leads
