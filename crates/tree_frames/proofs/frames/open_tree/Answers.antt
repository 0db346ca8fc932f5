use Rattle.std.proofs.Common.{◌-◌, refl, sym, ◌∙◌, ap, subst}
use Rattle.closures.specs.Environments.{deepest}
use Rattle.closures.specs.Shown.{lists}
use Rattle.closures.specs.Closures.{HeadStands, head_meaning}
use Rattle.side_conditions.proofs.OpeningLaws.{head_tree}
use Rattle.tree_frames.proofs.FrameLaws.{is-frame}
use Rattle.tree_frames.proofs.frames.open_tree.Goals as goal

pub returns-in-Make-clause-opens : goal.returns-in-Make-clause-opens
returns-in-Make-clause-opens g c =
    let f = g.R.Rows.means c.args.rows.now in
    let old = lists c.args.environments.now in
    let new = lists c.head_of.new.environments in
    record {
      frame = is-frame f new _ (record { op = c.in-Make.op; at = 0; kids = c.in-Make.kids; environment = c.in-Make.environment; level = c.args.level })
          (ap (head_meaning f new) (sym c.in-Make.is) ∙ head_tree f old new (record { closure = c.args.closure; depth = 0 }) (deepest - 1) c.in_ok-index.field-0 c.requires c.in_ok-index.ensures.meaning c.in_ok-index.ensures.stands);
      start = refl;
      level = refl;
      stands = λ n stands. subst (HeadStands f new n) c.in-Make.is (c.in_ok-index.ensures.stands n stands);
    }
