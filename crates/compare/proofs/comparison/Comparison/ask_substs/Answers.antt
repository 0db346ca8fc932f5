use Rattle.std.proofs.Common.{◌≡◌, ap}
use Rattle.rows.specs.declared.views.SubId.{SubId}
use Rattle.std.proofs.lemmas.Bool.{eqb-true, eqb-false}
use Rattle.closures.specs.Shown.{lists}
use Rattle.compare.proofs.AskLaws.{asks-pair}
use Rattle.compare.proofs.SubstAskLaws.{substs-begin, subst_heads, is_subst_closure-grows, shifts-same, shifts-differ, shift-and-push, push-and-shift, pushes-next, pushes-smaller}
use Rattle.compare.proofs.comparison.Comparison.ask_substs.Goals as goal

pub loop-left-init : goal.loop-left-init
loop-left-init g c =
    substs-begin (g.R.Rows.means c.args.rows.now) (lists c.args.self.now.environments) c.args.left c.args.right c.of_row-left.result c.of_row-right.result c.args.self.now.pairs.keys
    (ap (λ (r : SubId). r.0) c.of_row-left.ensures.row) c.of_row-left.ensures.environment (ap (λ (r : SubId). r.0) c.of_row-right.ensures.row) c.of_row-right.ensures.environment c.requires.left c.requires.right c.requires.stand

pub subst_head-requires-in-loop-left : goal.subst_head-requires-in-loop-left
subst_head-requires-in-loop-left g c =
    is_subst_closure-grows (g.R.Rows.means c.args.rows.now) (lists c.loop-left.self.environments) (lists c.subst_head.new.environments) c.loop-left.right c.subst_head.ensures.grows c.loop-left.invariant.right_stands

pub returns-in-Shift-Shift-clause-yes : goal.returns-in-Shift-Shift-clause-yes
returns-in-Shift-Shift-clause-yes g c =
    let f = g.R.Rows.means c.args.rows.now in
    let same = f c.args.left ≡ f c.args.right in
    let l = c.loop-left in
    let known = lists c.subst_head-in-loop-left.new.environments in
    let h = subst_heads f (lists l.self.environments) (lists c.subst_head.new.environments) known l.left l.right c.in_ok-first.first c.in_ok-second.second _ _ c.in-Shift-Shift.is-0 c.in-Shift-Shift.is-1 l.invariant.right_stands c.subst_head.ensures.grows c.subst_head-in-loop-left.ensures.grows c.in_ok-first.ensures.meaning c.in_ok-first.ensures.stands c.in_ok-second.ensures.meaning c.in_ok-second.ensures.stands in
    λ e. shifts-same {goal = same} l.invariant known c.in-Shift-Shift.n c.in-Shift-Shift.m h (eqb-true _ _ e)

pub loop-left-preserved : goal.loop-left-preserved
loop-left-preserved g c =
    let f = g.R.Rows.means c.args.rows.now in
    let same = f c.args.left ≡ f c.args.right in
    let l = c.loop-left in
    let known = lists c.subst_head-in-loop-left.new.environments in
    let h = subst_heads f (lists l.self.environments) (lists c.subst_head.new.environments) known l.left l.right c.in_ok-first.first c.in_ok-second.second _ _ c.in-Push-Push.is-0 c.in-Push-Push.is-1 l.invariant.right_stands c.subst_head.ensures.grows c.subst_head-in-loop-left.ensures.grows c.in_ok-first.ensures.meaning c.in_ok-first.ensures.stands c.in_ok-second.ensures.meaning c.in_ok-second.ensures.stands in
    let p = c.in-Push-Push in
    pushes-next {goal = same} l.invariant known p.d p.e p.a p.b h c.add_pair.new.pairs.keys (asks-pair f known _ l.self.pairs.keys c.add_pair.new.pairs.keys (h.first_stands.1, h.second_stands.1) c.in_ok-add_pair-in-Push-Push.ensures)

pub returns-in-Shift-Shift-clause-no : goal.returns-in-Shift-Shift-clause-no
returns-in-Shift-Shift-clause-no g c =
    let f = g.R.Rows.means c.args.rows.now in
    let same = f c.args.left ≡ f c.args.right in
    let l = c.loop-left in
    let known = lists c.subst_head-in-loop-left.new.environments in
    let h = subst_heads f (lists l.self.environments) (lists c.subst_head.new.environments) known l.left l.right c.in_ok-first.first c.in_ok-second.second _ _ c.in-Shift-Shift.is-0 c.in-Shift-Shift.is-1 l.invariant.right_stands c.subst_head.ensures.grows c.subst_head-in-loop-left.ensures.grows c.in_ok-first.ensures.meaning c.in_ok-first.ensures.stands c.in_ok-second.ensures.meaning c.in_ok-second.ensures.stands in
    λ e. shifts-differ {goal = same} l.invariant known c.in-Shift-Shift.n c.in-Shift-Shift.m h (eqb-false _ _ e)

pub returns-in_default-clause-no : goal.returns-in_default-clause-no
returns-in_default-clause-no g c =
    let f = g.R.Rows.means c.args.rows.now in
    let same = f c.args.left ≡ f c.args.right in
    let l = c.loop-left in
    let known = lists c.subst_head-in-loop-left.new.environments in
    let h = subst_heads f (lists l.self.environments) (lists c.subst_head.new.environments) known l.left l.right c.in_ok-first.first c.in_ok-second.second _ _ c.in_default.is-0 c.in_default.is-1 l.invariant.right_stands c.subst_head.ensures.grows c.subst_head-in-loop-left.ensures.grows c.in_ok-first.ensures.meaning c.in_ok-first.ensures.stands c.in_ok-second.ensures.meaning c.in_ok-second.ensures.stands in
    λ e. shift-and-push {goal = same} l.invariant known _ _ _ h

pub returns-in_default-2-clause-no : goal.returns-in_default-2-clause-no
returns-in_default-2-clause-no g c =
    let f = g.R.Rows.means c.args.rows.now in
    let same = f c.args.left ≡ f c.args.right in
    let l = c.loop-left in
    let known = lists c.subst_head-in-loop-left.new.environments in
    let h = subst_heads f (lists l.self.environments) (lists c.subst_head.new.environments) known l.left l.right c.in_ok-first.first c.in_ok-second.second _ _ c.in_default.is-0 c.in_default.is-1 l.invariant.right_stands c.subst_head.ensures.grows c.subst_head-in-loop-left.ensures.grows c.in_ok-first.ensures.meaning c.in_ok-first.ensures.stands c.in_ok-second.ensures.meaning c.in_ok-second.ensures.stands in
    λ e. push-and-shift {goal = same} l.invariant known _ _ _ h

pub loop-left-smaller : goal.loop-left-smaller
loop-left-smaller g c =
    let f = g.R.Rows.means c.args.rows.now in
    let same = f c.args.left ≡ f c.args.right in
    let l = c.loop-left in
    let known = lists c.subst_head-in-loop-left.new.environments in
    let h = subst_heads f (lists l.self.environments) (lists c.subst_head.new.environments) known l.left l.right c.in_ok-first.first c.in_ok-second.second _ _ c.in-Push-Push.is-0 c.in-Push-Push.is-1 l.invariant.right_stands c.subst_head.ensures.grows c.subst_head-in-loop-left.ensures.grows c.in_ok-first.ensures.meaning c.in_ok-first.ensures.stands c.in_ok-second.ensures.meaning c.in_ok-second.ensures.stands in
    let p = c.in-Push-Push in
    pushes-smaller {goal = same} l.invariant known p.d p.e p.a p.b h
