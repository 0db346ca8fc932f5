use Rattle.std.proofs.Common.{◌≡◌, ℕ, ◌-◌, refl, sym, ◌∙◌, ap, subst}
use Rattle.trees.specs.declared.op.Op.TheVariants as op
use Rattle.closures.specs.Environments.{deepest}
use Rattle.closures.specs.Shown.{lists}
use Rattle.closures.specs.Closures.{HeadStands, head_meaning, IsClosure, Stands}
use Rattle.closures.specs.declared.heads.Head.TheVariants as head
use Rattle.side_conditions.proofs.OpeningLaws.{head_tree}
use Rattle.tree_frames.specs.declared.frames.Frame.{Frame}
use Rattle.tree_frames.specs.Frames.{tree_in}
use Rattle.tree_frames.specs.Frames.{IsFrame}
use Rattle.tree_frames.proofs.FrameLaws.{is-frame, frame-stands}
use Rattle.tree_texts.proofs.SideLaws.{is-side}
use Rattle.tree_texts.proofs.texts.side_of.Given as given
use Rattle.tree_texts.proofs.texts.side_of.Goals as goal
use Rattle.tree_texts.proofs.texts.side_of.Goals.{In-Make-Sys-default-default}

abbrev frame : (g : given.Over) (c : In-Make-Sys-default-default g) → Frame
frame g c = record { op = op.Sys; at = 0; kids = c.in-Make-Sys-default-default.kids; environment = c.in-Make-Sys-default-default.environment; level = 0 }

found : (g : given.Over) (c : In-Make-Sys-default-default g) → c.in_ok-kids.field-0 ≡ head.Make op.Sys c.in-Make-Sys-default-default.kids c.in-Make-Sys-default-default.environment
found g c = c.in-Make-Sys-default-default.is ∙ ap (λ o. head.Make o c.in-Make-Sys-default-default.kids c.in-Make-Sys-default-default.environment) c.in-Make-Sys-default-default.field-0-is

env : (g : given.Over) (c : In-Make-Sys-default-default g) (n : ℕ) → IsClosure (g.R.Rows.means c.args.rows.now) (lists c.args.environments.now) n c.args.body → Stands (g.R.Rows.means c.args.rows.now) (lists c.head_of.new.environments) n c.in-Make-Sys-default-default.environment
env g c n stands = subst (HeadStands (g.R.Rows.means c.args.rows.now) (lists c.head_of.new.environments) n) (found g c) (c.in_ok-kids.ensures.stands n stands)

is_frame : (g : given.Over) (c : In-Make-Sys-default-default g) → IsFrame (g.R.Rows.means c.args.rows.now) (lists c.head_of.new.environments) (tree_in (g.R.Rows.means c.args.rows.now) (lists c.args.environments.now) c.args.body) (frame g c)
is_frame g c =
    let f = g.R.Rows.means c.args.rows.now in
    let old = lists c.args.environments.now in
    let new = lists c.head_of.new.environments in
    is-frame f new _ (frame g c) (ap (head_meaning f new) (sym (found g c)) ∙ head_tree f old new (record { closure = c.args.body; depth = 0 }) (deepest - 1) c.in_ok-kids.field-0 c.requires.stands c.in_ok-kids.ensures.meaning c.in_ok-kids.ensures.stands)

pub kid_of-requires-clause-stands : goal.kid_of-requires-clause-stands
kid_of-requires-clause-stands g c =
    let m = (goal.at.kid_of-requires-clause-stands g c).In-Make-Sys-default-default in
    frame-stands (g.R.Rows.means c.args.rows.now) (lists c.head_of.new.environments) (deepest - 1) _ (frame g m) (is_frame g m) (env g m (deepest - 1) c.requires.stands)

pub kid_of-requires-in-Make-Sys-default-default-clause-stands : goal.kid_of-requires-in-Make-Sys-default-default-clause-stands
kid_of-requires-in-Make-Sys-default-default-clause-stands g c =
    let m = (goal.at.kid_of-requires-in-Make-Sys-default-default-clause-stands g c).In-Make-Sys-default-default in
    frame-stands (g.R.Rows.means c.args.rows.now) (lists c.head_of.new.environments) (deepest - 1) _ (frame g m) (is_frame g m) (env g m (deepest - 1) c.requires.stands)

pub kid_of-requires-in-Make-Sys-default-default-2-clause-stands : goal.kid_of-requires-in-Make-Sys-default-default-2-clause-stands
kid_of-requires-in-Make-Sys-default-default-2-clause-stands g c =
    let m = (goal.at.kid_of-requires-in-Make-Sys-default-default-2-clause-stands g c).In-Make-Sys-default-default in
    frame-stands (g.R.Rows.means c.args.rows.now) (lists c.head_of.new.environments) (deepest - 1) _ (frame g m) (is_frame g m) (env g m (deepest - 1) c.requires.stands)

pub returns-in-Make-Sys-default-default-clause-side : goal.returns-in-Make-Sys-default-default-clause-side
returns-in-Make-Sys-default-default-clause-side g c =
    let m = (goal.at.returns-in-Make-Sys-default-default-clause-side g c).In-Make-Sys-default-default in
    is-side (g.R.Rows.means c.args.rows.now) (lists c.args.environments.now) (lists c.head_of.new.environments) c.args.body c.kid_of.result c.kid_of-in-Make-Sys-default-default.result c.kid_of-in-Make-Sys-default-default-2.result (frame g m) refl (is_frame g m) (env g m) c.kid_of.ensures c.kid_of-in-Make-Sys-default-default.ensures c.kid_of-in-Make-Sys-default-default-2.ensures
