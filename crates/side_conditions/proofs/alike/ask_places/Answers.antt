use Rattle.side_conditions.specs.declared.reading.Detail.TheVariants as detail
use Rattle.side_conditions.specs.Readings.{IsValued}
use Rattle.std.proofs.Common.{rules, ◌≡◌, sym, ap, subst}
use Rattle.std.proofs.lemmas.Bool.{eqb-true, eqb-false}
use Rattle.rows.specs.declared.views.SubId.{SubId}
use Rattle.rows.specs.declared.views.CtxId.{CtxId}
use Rattle.rows.proofs.TableLaws.{grows-grows}
use Rattle.closures.specs.Shown.{lists}
use Rattle.closures.specs.Closures.{closure_meaning, subst_of}
use Rattle.closures.specs.declared.substs.SubstHead.{SubstHead}
use Rattle.closures.specs.declared.substs.SubstHead.TheVariants.{Push}
use Rattle.compare.specs.Pairs.{Asks}
use Rattle.compare.proofs.SubstAskLaws.{SubstHeads, subst_heads, is_subst_closure-grows}
use Rattle.conditions.specs.Sides.{AlikeIn}
use Rattle.side_conditions.specs.Contexts.{context_of}
use Rattle.side_conditions.specs.Formulas.{AreAlike}
use Rattle.side_conditions.specs.Shapes.{tree_of}
use Rattle.side_conditions.specs.Shown.{reading_at}
use Rattle.side_conditions.proofs.KeptLaws.{stands-self, stands-still}
use Rattle.side_conditions.proofs.WalkLaws.{remembers-grow, remembers_nothing}
use Rattle.side_conditions.proofs.AlikeLaws.{Opened, places-begin, places-same, shifts-alike, shifts-unlike, shift-and-push, push-and-shift, pushes-opened, pushes-smaller, opened-unlike, opened-next}
use Rattle.side_conditions.proofs.alike.ask_places.Given as given
use Rattle.side_conditions.proofs.alike.ask_places.Goals as goal
use Rattle.side_conditions.proofs.alike.ask_places.Goals.{In_ok-second, In-Push-Push, in_default-via-in-Shift+in_default, in_default-via-in-Push+in_default}

pub loop-left-init : goal.loop-left-init
loop-left-init g c =
    let f = g.R.Rows.means c.args.rows.now in (
      places-begin f (context_of (f c.args.faces.now.ctx.0)) (lists c.args.environments.now) c.args.left.0 c.args.right.0 c.of_row-left.result c.of_row-right.result c.args.pairs.now.keys
          (ap (λ (r : SubId). r.0) c.of_row-left.ensures.row) c.of_row-left.ensures.environment (ap (λ (r : SubId). r.0) c.of_row-right.ensures.row) c.of_row-right.ensures.environment c.requires.left c.requires.right c.requires.nothing,
      c.requires.stands,
      remembers_nothing (IsValued detail.Value) f (lists c.args.environments.now) c.args.faces.now.names.items (reading_at c.new-readings.result) c.new-readings.ensures.nothing,
    )

pub returns-clause-yes : goal.returns-clause-yes
returns-clause-yes g c =
    let same : c.loop-left.left ≡ c.loop-left.right = search rules in
    λ e. places-same c.loop-left.invariant.0 same

pub subst_head-requires-in-loop-left : goal.subst_head-requires-in-loop-left
subst_head-requires-in-loop-left g c =
    is_subst_closure-grows (g.R.Rows.means c.args.rows.now) (lists c.loop-left.environments) (lists c.subst_head.new.environments) c.loop-left.right c.subst_head.ensures.grows c.loop-left.invariant.0.right_stands

-- the two substitutions, opened
heads : (g : given.Over) (c : In_ok-second g) (first second : SubstHead) → c.in_ok-first.first ≡ first → c.in_ok-second.second ≡ second → SubstHeads (g.R.Rows.means c.args.rows.now) (lists c.loop-left.environments) (lists c.subst_head-in-loop-left.new.environments) c.loop-left.left c.loop-left.right first second
heads g c first second a b =
    let l = c.loop-left in
    subst_heads (g.R.Rows.means c.args.rows.now) (lists l.environments) (lists c.subst_head.new.environments) (lists c.subst_head-in-loop-left.new.environments) l.left l.right c.in_ok-first.first c.in_ok-second.second first second a b l.invariant.0.right_stands c.subst_head.ensures.grows c.subst_head-in-loop-left.ensures.grows c.in_ok-first.ensures.meaning c.in_ok-first.ensures.stands c.in_ok-second.ensures.meaning c.in_ok-second.ensures.stands

pub returns-in-Shift-Shift-clause-yes : goal.returns-in-Shift-Shift-clause-yes
returns-in-Shift-Shift-clause-yes g c =
    let h = heads g (goal.at.returns-in-Shift-Shift-clause-yes g c).In_ok-second _ _ c.in-Shift-Shift.is-0 c.in-Shift-Shift.is-1 in
    λ e. shifts-alike c.loop-left.invariant.0 (lists c.subst_head-in-loop-left.new.environments) c.in-Shift-Shift.n c.in-Shift-Shift.m h (eqb-true _ _ e)

pub returns-in-Shift-Shift-clause-no : goal.returns-in-Shift-Shift-clause-no
returns-in-Shift-Shift-clause-no g c =
    let h = heads g (goal.at.returns-in-Shift-Shift-clause-no g c).In_ok-second _ _ c.in-Shift-Shift.is-0 c.in-Shift-Shift.is-1 in
    λ e. shifts-unlike c.loop-left.invariant.0 (lists c.subst_head-in-loop-left.new.environments) c.in-Shift-Shift.n c.in-Shift-Shift.m h (eqb-false _ _ e)

pub returns-in_default-clause-no : goal.returns-in_default-clause-no
returns-in_default-clause-no g c =
    let known = lists c.subst_head-in-loop-left.new.environments in
    let there = (goal.at.returns-in_default-clause-no g c).In_ok-second in
    elim c.in_default.branch [
      | in_default-via-in-Shift+in_default w ↦ λ e. shift-and-push c.loop-left.invariant.0 known _ _ _ (heads g there _ _ w.in_default.is-0 w.in_default.is-1)
      | in_default-via-in-Push+in_default w ↦ λ e. push-and-shift c.loop-left.invariant.0 known _ _ _ (heads g there _ _ w.in_default.is-0 w.in_default.is-1)
    ]

pub ask_trees-requires-clause-stands : goal.ask_trees-requires-clause-stands
ask_trees-requires-clause-stands g c =
    stands-self (g.R.Rows.means c.args.rows.now) c.args.faces.now.ctx c.loop-left.faces c.loop-left.invariant.1

-- two substitutions with trees pushed on them
pushes : (g : given.Over) (c : In-Push-Push g) → SubstHeads (g.R.Rows.means c.args.rows.now) (lists c.loop-left.environments) (lists c.subst_head-in-loop-left.new.environments) c.loop-left.left c.loop-left.right (Push c.in-Push-Push.d c.in-Push-Push.a) (Push c.in-Push-Push.e c.in-Push-Push.b)
pushes g c =
    let l = c.loop-left in
    subst_heads (g.R.Rows.means c.args.rows.now) (lists l.environments) (lists c.subst_head.new.environments) (lists c.subst_head-in-loop-left.new.environments) l.left l.right c.in_ok-first.first c.in_ok-second.second _ _ c.in-Push-Push.is-0 c.in-Push-Push.is-1 l.invariant.0.right_stands c.subst_head.ensures.grows c.subst_head-in-loop-left.ensures.grows c.in_ok-first.ensures.meaning c.in_ok-first.ensures.stands c.in_ok-second.ensures.meaning c.in_ok-second.ensures.stands

opened : (g : given.Over) (c : In-Push-Push g) → Opened (g.R.Rows.means c.args.rows.now) (context_of (g.R.Rows.means c.args.rows.now c.args.faces.now.ctx.0)) (AlikeIn (context_of (g.R.Rows.means c.args.rows.now c.args.faces.now.ctx.0)) (subst_of (g.R.Rows.means c.args.rows.now c.args.left.0)) (subst_of (g.R.Rows.means c.args.rows.now c.args.right.0))) (lists c.subst_head-in-loop-left.new.environments) c.in-Push-Push.d c.in-Push-Push.e c.in-Push-Push.a c.in-Push-Push.b c.loop-left.pairs.keys
opened g c = pushes-opened c.loop-left.invariant.0 (lists c.subst_head-in-loop-left.new.environments) c.in-Push-Push.d c.in-Push-Push.e c.in-Push-Push.a c.in-Push-Push.b (pushes g c)

pub ask_trees-requires-clause-left : goal.ask_trees-requires-clause-left
ask_trees-requires-clause-left g c = (opened g (goal.at.ask_trees-requires-clause-left g c).In-Push-Push).tree_stands

pub ask_trees-requires-clause-right : goal.ask_trees-requires-clause-right
ask_trees-requires-clause-right g c = (opened g (goal.at.ask_trees-requires-clause-right g c).In-Push-Push).other_stands

pub ask_trees-requires-clause-remembers : goal.ask_trees-requires-clause-remembers
ask_trees-requires-clause-remembers g c =
    let l = c.loop-left in
    let known = lists c.subst_head-in-loop-left.new.environments in
    remembers-grow (IsValued detail.Value) (g.R.Rows.means c.args.rows.now) (lists l.environments) known l.faces.names.items (reading_at l.readings) (grows-grows (lists l.environments) (lists c.subst_head.new.environments) known c.subst_head.ensures.grows c.subst_head-in-loop-left.ensures.grows) l.invariant.2

pub returns-then-not-branch-clause-no : goal.returns-then-not-branch-clause-no
returns-then-not-branch-clause-no g c =
    let f = g.R.Rows.means c.args.rows.now in
    let known = lists c.subst_head-in-loop-left.new.environments in
    let p = c.in-Push-Push in
    λ e. opened-unlike (opened g (goal.at.returns-then-not-branch-clause-no g c).In-Push-Push) (λ x. c.in_ok-ask_trees-in-Push-Push.ensures.no c.if-not-branch.true (subst (λ (x : CtxId). AreAlike (context_of (f x.0)) (tree_of (closure_meaning f known p.a)) (tree_of (closure_meaning f known p.b))) (sym c.loop-left.invariant.1.row_is) x))

pub loop-left-preserved : goal.loop-left-preserved
loop-left-preserved g c =
    let f = g.R.Rows.means c.args.rows.now in
    let l = c.loop-left in
    let known = lists c.subst_head-in-loop-left.new.environments in
    let newer = lists c.ask_trees.new.environments in
    let p = c.in-Push-Push in
    let new = c.ask_trees.new.pairs.keys in
    let asks = c.in_ok-ask_trees-in-Push-Push.ensures in (
      opened-next (opened g (goal.at.loop-left-preserved g c).In-Push-Push) newer new asks.grows (subst (λ (x : CtxId). Asks f newer (AreAlike (context_of (f x.0)) (tree_of (closure_meaning f known p.a)) (tree_of (closure_meaning f known p.b))) l.pairs.keys new) l.invariant.1.row_is (asks.yes c.if-not-branch.false)),
      stands-still f c.args.faces.now.ctx l.faces c.ask_trees.new.faces l.invariant.1 c.ask_trees.ensures.stands,
      asks.remembers,
    )

pub loop-left-smaller : goal.loop-left-smaller
loop-left-smaller g c =
    let p = c.in-Push-Push in
    pushes-smaller c.loop-left.invariant.0 (lists c.subst_head-in-loop-left.new.environments) p.d p.e p.a p.b (pushes g (goal.at.loop-left-smaller g c).In-Push-Push) (lists c.ask_trees.new.environments) c.in_ok-ask_trees-in-Push-Push.ensures.grows
