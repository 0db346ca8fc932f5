use Rattle.std.proofs.Common.{◌≡◌, ◌++◌, ◌-◌, refl, sym, ◌∙◌, ap, subst, rules}
use denote.Enum.Bare.{same_true, same_false}
use Rattle.tree_texts.specs.contracts.words.Sort.{the_type}
use Rattle.tree_texts.specs.Layouts.{text_as}
use Rattle.closures.specs.Environments.{deepest}
use Rattle.closures.specs.Shown.{lists}
use Rattle.closures.specs.Closures.{HeadStands, head_meaning}
use Rattle.side_conditions.proofs.OpeningLaws.{head_tree, head_var}
use Rattle.tree_frames.specs.declared.frames.Frame.{Frame}
use Rattle.tree_texts.specs.declared.words.Form.TheVariants as form
use Rattle.tree_frames.specs.Frames.{tree_in}
use Rattle.tree_frames.specs.Frames.{IsFrame}
use Rattle.tree_frames.proofs.FrameLaws.{is-frame, frame-stands}
use Rattle.tree_texts.proofs.TaskLaws.{opens-nothing, opens-plain, opens-other, opens-parts, opens-unlike}
use Rattle.tree_texts.specs.declared.words.Sort.TheVariants as sort
use Rattle.tree_texts.proofs.texts.open.Given as given
use Rattle.tree_texts.proofs.texts.open.Goals as goal
use Rattle.tree_texts.proofs.texts.open.Goals.{In-Make}

abbrev frame : (g : given.Over) (c : In-Make g) → Frame
frame g c = record { op = c.in-Make.op; at = 0; kids = c.in-Make.kids; environment = c.in-Make.environment; level = c.args.level }

is_frame : (g : given.Over) (c : In-Make g) → IsFrame (g.R.Rows.means c.args.rows.now) (lists c.head_of.new.environments) (tree_in (g.R.Rows.means c.args.rows.now) (lists c.args.environments.now) c.args.closure) (frame g c)
is_frame g c =
    let f = g.R.Rows.means c.args.rows.now in
    let old = lists c.args.environments.now in
    let new = lists c.head_of.new.environments in
    is-frame f new _ (frame g c) (ap (head_meaning f new) (sym c.in-Make.is) ∙ head_tree f old new (record { closure = c.args.closure; depth = 0 }) (deepest - 1) c.in_ok-index.field-0 c.requires.stands c.in_ok-index.ensures.meaning c.in_ok-index.ensures.stands)

pub leave-requires-clause-stands : goal.leave-requires-clause-stands
leave-requires-clause-stands g c =
    let f = g.R.Rows.means c.args.rows.now in
    let new = lists c.head_of.new.environments in
    let m = (goal.at.leave-requires-clause-stands g c).In-Make in
    frame-stands f new (deepest - 1) _ (frame g m) (is_frame g m)
    (subst (HeadStands f new (deepest - 1)) c.in-Make.is (c.in_ok-index.ensures.stands (deepest - 1) c.requires.stands))

pub returns-in_ok-append_variable-in-Var-clause-opens :
    goal.returns-in_ok-append_variable-in-Var-clause-opens
returns-in_ok-append_variable-in-Var-clause-opens g c =
    let f = g.R.Rows.means c.args.rows.now in
    let old = lists c.args.environments.now in
    let new = lists c.head_of.new.environments in
    let is = head_var f old new (record { closure = c.args.closure; depth = 0 }) (deepest - 1) c.in_ok-index.field-0 c.requires.stands c.in_ok-index.ensures.meaning c.in_ok-index.ensures.stands c.in-Var.index c.in-Var.is in
    opens-nothing f old new c.args.sort c.args.level c.args.closure c.args.into.now.items c.append_variable.new.into.items c.args.tasks.now.items
    (c.in_ok-append_variable-in-Var.ensures ∙ ap (λ t. c.args.into.now.items ++ text_as c.args.sort c.args.level t) is)

pub returns-in_ok-leave-in-Plain-clause-opens : goal.returns-in_ok-leave-in-Plain-clause-opens
returns-in_ok-leave-in-Plain-clause-opens g c =
    let f = g.R.Rows.means c.args.rows.now in
    let old = lists c.args.environments.now in
    let new = lists c.head_of.new.environments in
    let m = (goal.at.returns-in_ok-leave-in-Plain-clause-opens g c).In-Make in
    opens-plain f old new c.args.sort c.args.closure (frame g m) c.args.into.now.items c.append_opening.new.into.items c.args.tasks.now.items c.leave.new.tasks.items
    (is_frame g m) refl (sym c.in-Plain.ensures ∙ ap form.Plain (same_true the_type (search rules) c.in-Plain.own c.args.sort (sym c.if-eq.ensures))) c.in_ok-append_opening-in-Plain.ensures
    (λ n stands. subst (HeadStands f new n) c.in-Make.is (c.in_ok-index.ensures.stands n stands))
    c.in_ok-leave-in-Plain.ensures

pub returns-else-eq-clause-opens : goal.returns-else-eq-clause-opens
returns-else-eq-clause-opens g c =
    let m = (goal.at.returns-else-eq-clause-opens g c).In-Make in
    opens-other (g.R.Rows.means c.args.rows.now) (lists c.args.environments.now) (lists c.head_of.new.environments) c.args.sort c.args.level c.args.closure (frame g m) c.args.into.now.items c.args.tasks.now.items (is_frame g m)
    (λ e. let own : form.Plain c.in-Plain.own ≡ form.Plain c.args.sort = c.in-Plain.ensures ∙ e in same_false the_type c.in-Plain.own c.args.sort (sym c.if-eq.ensures) cc)
    (λ e. let wrong : form.Plain c.in-Plain.own ≡ form.WithSystem = c.in-Plain.ensures ∙ e in cc)

pub leave_parts-requires-clause-stands : goal.leave_parts-requires-clause-stands
leave_parts-requires-clause-stands g c =
    let f = g.R.Rows.means c.args.rows.now in
    let new = lists c.head_of.new.environments in
    let m = (goal.at.leave_parts-requires-clause-stands g c).In-Make in
    frame-stands f new (deepest - 1) _ (frame g m) (is_frame g m)
    (subst (HeadStands f new (deepest - 1)) c.in-Make.is (c.in_ok-index.ensures.stands (deepest - 1) c.requires.stands))

pub returns-in_ok-leave_parts-in-WithSystem-clause-opens :
    goal.returns-in_ok-leave_parts-in-WithSystem-clause-opens
returns-in_ok-leave_parts-in-WithSystem-clause-opens g c =
    let f = g.R.Rows.means c.args.rows.now in
    let old = lists c.args.environments.now in
    let new = lists c.head_of.new.environments in
    let m = (goal.at.returns-in_ok-leave_parts-in-WithSystem-clause-opens g c).In-Make in
    opens-parts f old new c.args.sort c.args.closure (frame g m) c.args.into.now.items c.append_opening-then-eq-2.new.into.items c.args.tasks.now.items c.leave_parts.new.tasks.items
    (is_frame g m) (same_true the_type (search rules) c.args.sort sort.Term (sym c.if-eq-2.ensures)) c.in_ok-append_opening-in-WithSystem.ensures
    (λ n stands. subst (HeadStands f new n) c.in-Make.is (c.in_ok-index.ensures.stands n stands))
    c.in_ok-leave_parts-in-WithSystem.ensures

pub returns-else-eq-2-clause-opens : goal.returns-else-eq-2-clause-opens
returns-else-eq-2-clause-opens g c =
    let m = (goal.at.returns-else-eq-2-clause-opens g c).In-Make in
    opens-unlike (g.R.Rows.means c.args.rows.now) (lists c.args.environments.now) (lists c.head_of.new.environments) c.args.sort c.args.level c.args.closure (frame g m) c.args.into.now.items c.args.tasks.now.items (is_frame g m)
    (sym c.in-WithSystem.ensures) (same_false the_type c.args.sort sort.Term (sym c.if-eq-2.ensures))

pub returns-in-Hidden-clause-opens : goal.returns-in-Hidden-clause-opens
returns-in-Hidden-clause-opens g c =
    let m = (goal.at.returns-in-Hidden-clause-opens g c).In-Make in
    opens-other (g.R.Rows.means c.args.rows.now) (lists c.args.environments.now) (lists c.head_of.new.environments) c.args.sort c.args.level c.args.closure (frame g m) c.args.into.now.items c.args.tasks.now.items (is_frame g m)
    (λ e. let wrong : form.Hidden ≡ form.Plain c.args.sort = c.in-Hidden.ensures ∙ e in cc)
    (λ e. let wrong : form.Hidden ≡ form.WithSystem = c.in-Hidden.ensures ∙ e in cc)
