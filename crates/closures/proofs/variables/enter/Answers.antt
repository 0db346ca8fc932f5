use Rattle.std.proofs.Common.{arith}
use Rattle.closures.specs.Shown.{lists}
use Rattle.closures.specs.Environments.{deepest}
use Rattle.closures.specs.declared.variables.Entered.TheVariants as entered
use Rattle.rows.proofs.TableLaws.{grows-grows}
use Rattle.closures.proofs.VariableLaws.{Arrives, walks-first, walks-next, walks-then, arrives-past, arrives-tree, is_push, is_then}
use Rattle.closures.proofs.variables.enter.Given as given
use Rattle.closures.proofs.variables.enter.Goals as goal
use Rattle.closures.proofs.variables.enter.Goals.{After-deeper-rest, In_ok-environment-in-Push}

pub loop-past-init : goal.loop-past-init
loop-past-init g c =
    walks-first (g.R.Rows.means c.args.rows.now) (lists c.args.environments.now) c.args.subst c.args.index c.args.lift c.args.after c.requires.subst c.requires.above

pub subst-requires : goal.subst-requires
subst-requires g c = c.loop-past.invariant.is_subst

pub passed-requires-clause-subst : goal.passed-requires-clause-subst
passed-requires-clause-subst g c = c.loop-past.invariant.is_subst

pub passed-requires-clause-above : goal.passed-requires-clause-above
passed-requires-clause-above g c = c.loop-past.invariant.above

pub passed-requires-clause-fits : goal.passed-requires-clause-fits
passed-requires-clause-fits g c = let falls = c.loop-past.invariant.falls in omega arith

pub deeper-rest-requires-clause-within : goal.deeper-rest-requires-clause-within
deeper-rest-requires-clause-within g c = (c.loop-past.invariant.stands deepest c.requires.stands).within

pub deeper-rest-requires-clause-shallow : goal.deeper-rest-requires-clause-shallow
deeper-rest-requires-clause-shallow g c = (c.loop-past.invariant.stands deepest c.requires.stands).shallow

past : (g : given.Over) (c : After-deeper-rest g) → Arrives (g.R.Rows.means c.args.rows.now) (lists c.args.environments.now) c.args.subst c.args.index c.args.lift c.args.after (lists c.loop-past.environments) (entered.Past c.in-Some.past c.deeper-rest.result)
past g c = arrives-past c.loop-past.invariant c.in-Some.past c.deeper-rest.result c.in-Some.ensures c.deeper-rest.ensures.list c.deeper-rest.ensures.within

pub returns-in-Some-clause-grows : goal.returns-in-Some-clause-grows
returns-in-Some-clause-grows g c = (past g (goal.at.returns-in-Some-clause-grows g c).After-deeper-rest).grows

pub returns-in-Some-clause-meaning : goal.returns-in-Some-clause-meaning
returns-in-Some-clause-meaning g c = (past g (goal.at.returns-in-Some-clause-meaning g c).After-deeper-rest).meaning

pub returns-in-Some-clause-stands : goal.returns-in-Some-clause-stands
returns-in-Some-clause-stands g c = (past g (goal.at.returns-in-Some-clause-stands g c).After-deeper-rest).stands

pub returns-in-Some-clause-weight : goal.returns-in-Some-clause-weight
returns-in-Some-clause-weight g c = (past g (goal.at.returns-in-Some-clause-weight g c).After-deeper-rest).weight

pub returns-in-Some-clause-near : goal.returns-in-Some-clause-near
returns-in-Some-clause-near g c = (past g (goal.at.returns-in-Some-clause-near g c).After-deeper-rest).near

pub raised-requires-clause-within : goal.raised-requires-clause-within
raised-requires-clause-within g c = (c.loop-past.invariant.stands deepest c.requires.stands).within

pub raised-requires-clause-shallow : goal.raised-requires-clause-shallow
raised-requires-clause-shallow g c = (c.loop-past.invariant.stands deepest c.requires.stands).shallow

pub returns-in_err-environment-in-Push-clause-grows : goal.returns-in_err-environment-in-Push-clause-grows
returns-in_err-environment-in-Push-clause-grows g c = grows-grows _ _ _ c.loop-past.invariant.grows c.raised.ensures.grows

found : (g : given.Over) (c : In_ok-environment-in-Push g) → Arrives (g.R.Rows.means c.args.rows.now) (lists c.args.environments.now) c.args.subst c.args.index c.args.lift c.args.after (lists c.raised.new.environments) (entered.Tree (record { row = c.in-Push.tree; environment = c.in_ok-environment-in-Push.environment }))
found g c =
    let f = g.R.Rows.means c.args.rows.now in
    let parts = is_push f c.loop-past.subst.0 c.in-Push.next.0 c.in-Push.tree.0 c.loop-past.invariant.is_subst c.in-Push.ensures.meaning in
    arrives-tree c.loop-past.invariant c.in-Push.next c.in-Push.tree (lists c.raised.new.environments) c.in_ok-environment-in-Push.environment parts (c.in-Push.ensures.earlier 1 0 (omega arith)) (omega arith) c.raised.ensures.grows c.in_ok-environment-in-Push.ensures.list c.in_ok-environment-in-Push.ensures.within

pub returns-then-index-from-clause-grows : goal.returns-then-index-from-clause-grows
returns-then-index-from-clause-grows g c = (found g c).grows

pub returns-then-index-from-clause-meaning : goal.returns-then-index-from-clause-meaning
returns-then-index-from-clause-meaning g c = (found g c).meaning

pub returns-then-index-from-clause-stands : goal.returns-then-index-from-clause-stands
returns-then-index-from-clause-stands g c = (found g c).stands

pub returns-then-index-from-clause-weight : goal.returns-then-index-from-clause-weight
returns-then-index-from-clause-weight g c = (found g c).weight

pub overflow_sub-index : goal.overflow_sub-index
overflow_sub-index g c = let above = c.loop-past.invariant.above in omega arith

pub loop-past-preserved-in-Push : goal.loop-past-preserved-in-Push
loop-past-preserved-in-Push g c =
    let f = g.R.Rows.means c.args.rows.now in
    let parts = is_push f c.loop-past.subst.0 c.in-Push.next.0 c.in-Push.tree.0 c.loop-past.invariant.is_subst c.in-Push.ensures.meaning in
    let above = c.loop-past.invariant.above in
    walks-next c.loop-past.invariant c.in-Push.next c.in-Push.tree parts (c.in-Push.ensures.earlier 0 0 (omega arith)) (omega arith)

pub push-requires : goal.push-requires
push-requires g c = (c.loop-past.invariant.stands deepest c.requires.stands).within

pub returns-in_err-after-in-Then-clause-grows : goal.returns-in_err-after-in-Then-clause-grows
returns-in_err-after-in-Then-clause-grows g c = grows-grows _ _ _ c.loop-past.invariant.grows c.push.ensures.grows

pub loop-past-smaller : goal.loop-past-smaller
loop-past-smaller g c = c.in-Then.ensures.earlier 0 0 (omega arith)

pub loop-past-preserved : goal.loop-past-preserved
loop-past-preserved g c =
    let f = g.R.Rows.means c.args.rows.now in
    let parts = is_then f c.loop-past.subst.0 c.in-Then.first.0 c.in-Then.second.0 c.loop-past.invariant.is_subst c.in-Then.ensures.meaning in
    walks-then c.loop-past.invariant c.in-Then.first c.in-Then.second (lists c.push.new.self) c.in_ok-after-in-Then.after parts (c.in-Then.ensures.earlier 0 0 (omega arith)) (c.in-Then.ensures.earlier 1 0 (omega arith)) c.push.ensures.grows c.in_ok-after-in-Then.ensures.list c.in_ok-after-in-Then.ensures.within
