use Rattle.std.proofs.Common.{◌≡◌, ◌+◌, ◌-◌, ◌^◌, ◌≤◌, [], ◌∷◌, ◌++◌, length, reverse, refl, ◌∙◌, ap, arith}
use Rattle.std.proofs.lemmas.List.{length-reverse}
use Rattle.rows.proofs.TableLaws.{grows-same}
use Rattle.closures.specs.Environments.{deepest}
use Rattle.closures.specs.Shown.{lists}
use Rattle.closures.proofs.HeadLaws.{closure-deeper}
use Rattle.side_conditions.specs.Shapes.{tree_of}
use Rattle.side_conditions.proofs.WalkLaws.{none_left}
use Rattle.tree_frames.proofs.FrameLaws.{frame-deeper}
use Rattle.fixed_names.specs.Shown.{fixed_by}
use Rattle.normality.specs.declared.tests.Test.TheVariants as test
use Rattle.normality.specs.declared.places.Place.TheVariants as place
use Rattle.normal_parts.specs.Normal.{Normal}
use Rattle.normal_parts.proofs.TellLaws.{is-no}
use Rattle.normality.specs.Worlds.{world, fix_each}
use Rattle.normality.specs.Tests.{part_at}
use Rattle.normality.proofs.WalkLaws.{Next, next-test, next-left, next-passed, next-kept, next-fails, leaves-where, fails-where, walks-begin, walks-end}
use Rattle.normality.proofs.normality.is_normal_where.Given as given
use Rattle.normality.proofs.normality.is_normal_where.Goals as goal
use Rattle.normality.proofs.normality.is_normal_where.Goals.{In-Tree, In-Kids, In-Sides, In-Keep}

trees : (g : given.Over) (c : In-Tree g) → Next (world (g.R.Rows.means c.args.rows.now) c.loop-test.environments c.loop-test.scopes) (Normal (fix_each c.args.fixed.now) (tree_of (g.R.Rows.means c.args.rows.now c.args.term.0))) c.loop-test.passed.keys c.loop-test.tests.items c.pop.new.self.items (test.Tree c.in-Tree.part)
trees g c = next-test c.in-Some.ensures.items c.in-Tree.is c.loop-test.invariant

kids : (g : given.Over) (c : In-Kids g) → Next (world (g.R.Rows.means c.args.rows.now) c.loop-test.environments c.loop-test.scopes) (Normal (fix_each c.args.fixed.now) (tree_of (g.R.Rows.means c.args.rows.now c.args.term.0))) c.loop-test.passed.keys c.loop-test.tests.items c.pop.new.self.items (test.Kids c.in-Kids.scope c.in-Kids.frame)
kids g c = next-test c.in-Some.ensures.items c.in-Kids.is c.loop-test.invariant

systems : (g : given.Over) (c : In-Sides g) → Next (world (g.R.Rows.means c.args.rows.now) c.loop-test.environments c.loop-test.scopes) (Normal (fix_each c.args.fixed.now) (tree_of (g.R.Rows.means c.args.rows.now c.args.term.0))) c.loop-test.passed.keys c.loop-test.tests.items c.pop.new.self.items (test.Sides c.in-Sides.sides)
systems g c = next-test c.in-Some.ensures.items c.in-Sides.is c.loop-test.invariant

keeps : (g : given.Over) (c : In-Keep g) → Next (world (g.R.Rows.means c.args.rows.now) c.loop-test.environments c.loop-test.scopes) (Normal (fix_each c.args.fixed.now) (tree_of (g.R.Rows.means c.args.rows.now c.args.term.0))) c.loop-test.passed.keys c.loop-test.tests.items c.pop.new.self.items (test.Keep c.in-Keep.part)
keeps g c = next-test c.in-Some.ensures.items c.in-Keep.is c.loop-test.invariant

pub loop-test-init : goal.loop-test-init
loop-test-init g c =
    walks-begin (g.R.Rows.means c.args.rows.now) (lists c.new-environments.result) (fixed_by c.scope_of.new.scopes) (fix_each c.args.fixed.now) c.args.term c.in_ok-scope.scope c.of_row.result c.new-passed.result.keys c.push.new.self.items c.requires c.of_row.ensures.row c.of_row.ensures.environment
    c.in_ok-scope.ensures.fixes c.in_ok-scope.ensures.within c.in_ok-scope.ensures.depth c.new-passed.ensures.empty
    (c.in_ok-push.ensures.items ∙ ap (λ xs. xs ++ test.Tree (part_at place.Anywhere c.in_ok-scope.scope c.of_row.result) ∷ []) c.new-tests.ensures.items)

pub loop-test-preserved-in_ok-keep-in-Keep : goal.loop-test-preserved-in_ok-keep-in-Keep
loop-test-preserved-in_ok-keep-in-Keep g c =
    (next-kept (keeps g (goal.at.loop-test-preserved-in_ok-keep-in-Keep g c).In-Keep) c.keep.new.passed.keys c.in_ok-keep-in-Keep.ensures).0

pub open_part-requires-clause-stands : goal.open_part-requires-clause-stands
open_part-requires-clause-stands g c =
    let rest = c.pop.new.self.items in
    let few : length (reverse rest) ≤ deepest - 2 = let l = length-reverse rest in let o = c.pop.new.self.ok in let m = c.pop.new.self.small in omega arith in
    closure-deeper (g.R.Rows.means c.args.rows.now) (lists c.loop-test.environments) (0 + length (reverse rest)) (deepest - 2) c.in-Tree.part.closure (omega (arith, few))
    (trees g (goal.at.open_part-requires-clause-stands g c).In-Tree).walks.stand.0.1

pub returns-then-not-branch : goal.returns-then-not-branch
returns-then-not-branch g c =
    is-no (next-fails (trees g (goal.at.returns-then-not-branch g c).In-Tree) (fails-where (world (g.R.Rows.means c.args.rows.now) c.loop-test.environments c.loop-test.scopes) (world (g.R.Rows.means c.args.rows.now) c.open_part.new.environments c.loop-test.scopes) (test.Tree c.in-Tree.part) c.pop.new.self.items c.open_part.new.tests.items c.in_ok-open_part-in-Tree.field-0 c.in_ok-open_part-in-Tree.ensures.tells c.if-not-branch.true))

pub loop-test-smaller-else-not-branch : goal.loop-test-smaller-else-not-branch
loop-test-smaller-else-not-branch g c =
    (next-left (trees g (goal.at.loop-test-smaller-else-not-branch g c).In-Tree) (λ good pass. good pass) (lists c.open_part.new.environments) (fixed_by c.loop-test.scopes) c.open_part.new.tests.items c.open_part.ensures.grows (grows-same (fixed_by c.loop-test.scopes))
    (leaves-where (world (g.R.Rows.means c.args.rows.now) c.loop-test.environments c.loop-test.scopes) (world (g.R.Rows.means c.args.rows.now) c.open_part.new.environments c.loop-test.scopes) (test.Tree c.in-Tree.part) c.pop.new.self.items c.open_part.new.tests.items c.in_ok-open_part-in-Tree.field-0 c.in_ok-open_part-in-Tree.ensures.tells c.if-not-branch.false)).1

pub loop-test-preserved-else-not-branch : goal.loop-test-preserved-else-not-branch
loop-test-preserved-else-not-branch g c =
    (next-left (trees g (goal.at.loop-test-preserved-else-not-branch g c).In-Tree) (λ good pass. good pass) (lists c.open_part.new.environments) (fixed_by c.loop-test.scopes) c.open_part.new.tests.items c.open_part.ensures.grows (grows-same (fixed_by c.loop-test.scopes))
    (leaves-where (world (g.R.Rows.means c.args.rows.now) c.loop-test.environments c.loop-test.scopes) (world (g.R.Rows.means c.args.rows.now) c.open_part.new.environments c.loop-test.scopes) (test.Tree c.in-Tree.part) c.pop.new.self.items c.open_part.new.tests.items c.in_ok-open_part-in-Tree.field-0 c.in_ok-open_part-in-Tree.ensures.tells c.if-not-branch.false)).0

pub loop-test-preserved-else-not-has_passed : goal.loop-test-preserved-else-not-has_passed
loop-test-preserved-else-not-has_passed g c =
    (next-passed (trees g (goal.at.loop-test-preserved-else-not-has_passed g c).In-Tree) (c.has_passed.ensures c.if-not-has_passed.false)).0

pub next_kid-requires-clause-stands : goal.next_kid-requires-clause-stands
next_kid-requires-clause-stands g c =
    let rest = c.pop.new.self.items in
    let few : length (reverse rest) ≤ deepest - 1 = let l = length-reverse rest in let o = c.pop.new.self.ok in let m = c.pop.new.self.small in omega arith in
    frame-deeper (g.R.Rows.means c.args.rows.now) (lists c.loop-test.environments) (0 + length (reverse rest)) (deepest - 1) c.in-Kids.frame (omega (arith, few))
    (kids g (goal.at.next_kid-requires-clause-stands g c).In-Kids).walks.stand.0.1

pub loop-test-smaller-in_ok-next_kid-in-Kids : goal.loop-test-smaller-in_ok-next_kid-in-Kids
loop-test-smaller-in_ok-next_kid-in-Kids g c =
    (next-left (kids g (goal.at.loop-test-smaller-in_ok-next_kid-in-Kids g c).In-Kids) (λ good pass. good pass) (lists c.loop-test.environments) (fixed_by c.loop-test.scopes) c.next_kid.new.tests.items (grows-same (lists c.loop-test.environments)) (grows-same (fixed_by c.loop-test.scopes)) c.in_ok-next_kid-in-Kids.ensures).1

pub loop-test-preserved-in_ok-next_kid-in-Kids : goal.loop-test-preserved-in_ok-next_kid-in-Kids
loop-test-preserved-in_ok-next_kid-in-Kids g c =
    (next-left (kids g (goal.at.loop-test-preserved-in_ok-next_kid-in-Kids g c).In-Kids) (λ good pass. good pass) (lists c.loop-test.environments) (fixed_by c.loop-test.scopes) c.next_kid.new.tests.items (grows-same (lists c.loop-test.environments)) (grows-same (fixed_by c.loop-test.scopes)) c.in_ok-next_kid-in-Kids.ensures).0

pub open_sides-requires-clause-face : goal.open_sides-requires-clause-face
open_sides-requires-clause-face g c =
    let rest = c.pop.new.self.items in
    let few : length (reverse rest) ≤ deepest - 1 = let l = length-reverse rest in let o = c.pop.new.self.ok in let m = c.pop.new.self.small in omega arith in
    closure-deeper (g.R.Rows.means c.args.rows.now) (lists c.loop-test.environments) (0 + length (reverse rest)) (deepest - 1) c.in-Sides.sides.face (omega (arith, few))
    (systems g (goal.at.open_sides-requires-clause-face g c).In-Sides).walks.stand.0.1

pub open_sides-requires-clause-body : goal.open_sides-requires-clause-body
open_sides-requires-clause-body g c =
    let rest = c.pop.new.self.items in
    let few : length (reverse rest) ≤ deepest - 1 = let l = length-reverse rest in let o = c.pop.new.self.ok in let m = c.pop.new.self.small in omega arith in
    closure-deeper (g.R.Rows.means c.args.rows.now) (lists c.loop-test.environments) (0 + length (reverse rest)) (deepest - 1) c.in-Sides.sides.body (omega (arith, few))
    (systems g (goal.at.open_sides-requires-clause-body g c).In-Sides).walks.stand.0.2

pub returns-then-not-branch-2 : goal.returns-then-not-branch-2
returns-then-not-branch-2 g c =
    is-no (next-fails (systems g (goal.at.returns-then-not-branch-2 g c).In-Sides) (fails-where (world (g.R.Rows.means c.args.rows.now) c.loop-test.environments c.loop-test.scopes) (world (g.R.Rows.means c.args.rows.now) c.open_sides.new.environments c.open_sides.new.scopes) (test.Sides c.in-Sides.sides) c.pop.new.self.items c.open_sides.new.tests.items c.in_ok-open_sides-in-Sides.field-0 c.in_ok-open_sides-in-Sides.ensures.tells c.if-not-branch-2.true))

pub loop-test-smaller : goal.loop-test-smaller
loop-test-smaller g c =
    (next-left (systems g (goal.at.loop-test-smaller g c).In-Sides) (λ good pass. good pass) (lists c.open_sides.new.environments) (fixed_by c.open_sides.new.scopes) c.open_sides.new.tests.items c.open_sides.ensures.grows c.open_sides.ensures.fixes
    (leaves-where (world (g.R.Rows.means c.args.rows.now) c.loop-test.environments c.loop-test.scopes) (world (g.R.Rows.means c.args.rows.now) c.open_sides.new.environments c.open_sides.new.scopes) (test.Sides c.in-Sides.sides) c.pop.new.self.items c.open_sides.new.tests.items c.in_ok-open_sides-in-Sides.field-0 c.in_ok-open_sides-in-Sides.ensures.tells c.if-not-branch-2.false)).1

pub loop-test-preserved : goal.loop-test-preserved
loop-test-preserved g c =
    (next-left (systems g (goal.at.loop-test-preserved g c).In-Sides) (λ good pass. good pass) (lists c.open_sides.new.environments) (fixed_by c.open_sides.new.scopes) c.open_sides.new.tests.items c.open_sides.ensures.grows c.open_sides.ensures.fixes
    (leaves-where (world (g.R.Rows.means c.args.rows.now) c.loop-test.environments c.loop-test.scopes) (world (g.R.Rows.means c.args.rows.now) c.open_sides.new.environments c.open_sides.new.scopes) (test.Sides c.in-Sides.sides) c.pop.new.self.items c.open_sides.new.tests.items c.in_ok-open_sides-in-Sides.field-0 c.in_ok-open_sides-in-Sides.ensures.tells c.if-not-branch-2.false)).0
