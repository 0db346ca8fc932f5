use Rattle.std.proofs.Common.{◌+◌, ◌≤◌, IsTrue, ap, get_or, subst, arith, rules}
use Rattle.trees.specs.Operators.{binds_of}
use Rattle.rows.specs.declared.views.TermId.{TermId}
use Rattle.rows.specs.Shown.{store_means}
use Rattle.rows.specs.Views.{IsTree}
use Rattle.closures.specs.Shown.{lists}
use Rattle.closures.specs.Environments.{deepest}
use Rattle.closures.specs.Closures.{IsClosure, HeadStands}
use Rattle.trees.proofs.OperatorLaws.{binds_of-most}
use Rattle.closures.proofs.HeadLaws.{row-stands, kid-stands, closure-deeper}
use Rattle.row_cases.proofs.opened.head_along.Goals as goal
use Rattle.row_cases.proofs.opened.head_along.Goals.{After-kid-closure}

pub loop-at-init : goal.loop-at-init
loop-at-init c =
    c.in_ok-head.ensures.stands 0
    (row-stands (store_means c.args.rows.now) (lists c.new-environments.result) 0 c.args.row.0 c.of_row.result c.requires.row (ap (λ (r : TermId). r.0) c.of_row.ensures.row) c.of_row.ensures.environment)

-- the closure of the kid, one binder deeper at most
kid_closure : (c : After-kid-closure) → IsClosure (store_means c.args.rows.now) (lists c.loop-at.environments) (c.loop-at.at-index + 1) c.kid-closure.result
kid_closure c =
    let f = store_means c.args.rows.now in
    let known = lists c.loop-at.environments in
    let at = get_or c.args.path.now c.loop-at.at-index 0 in
    let row = get_or c.in-Make.kids.now at 0 in
    let stands = subst (HeadStands f known c.loop-at.at-index) c.in-Make.is c.loop-at.invariant in
    let yes : IsTrue c.is_term.result = search rules in
    let tree : IsTree (f row) = c.is_term.ensures.0 yes in
    let most = binds_of-most c.in-Make.op at in
    closure-deeper f known (c.loop-at.at-index + binds_of c.in-Make.op at) (c.loop-at.at-index + 1) c.kid-closure.result (omega (arith, most))
    (kid-stands f known c.loop-at.at-index (binds_of c.in-Make.op at) row c.in-Make.environment c.kid-closure.result tree stands
    c.kid-closure.ensures.row c.kid-closure.ensures.list c.kid-closure.ensures.within)

pub head_of-requires-in-loop-at : goal.head_of-requires-in-loop-at
head_of-requires-in-loop-at c =
    let few : c.loop-at.at-index + 1 ≤ deepest = omega (arith, c.loop-at-test.true, c.requires.path) in
    closure-deeper (store_means c.args.rows.now) (lists c.loop-at.environments) (c.loop-at.at-index + 1) deepest c.kid-closure.result few
    (kid_closure (goal.at.head_of-requires-in-loop-at c).After-kid-closure)

pub loop-at-preserved : goal.loop-at-preserved
loop-at-preserved c =
    c.in_ok-head-2.ensures.stands (c.loop-at.at-index + 1) (kid_closure (goal.at.loop-at-preserved c).After-kid-closure)
