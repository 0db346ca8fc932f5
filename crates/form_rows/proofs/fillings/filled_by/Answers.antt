use Rattle.form_rows.proofs.RowLaws.{are_two, is_kept, is_of, kept_then, tree_kept}
use Rattle.form_rows.proofs.fillings.filled_by.Goals as goal

pub lifted-requires-2 : goal.lifted-requires-2
lifted-requires-2 g c = tree_kept (g.M.Rows.means c.args.maker.now) (g.M.Rows.means c.equation.new.maker) c.args.base (kept_then c.lifted.ensures.kept c.equation.ensures.kept) c.requires.base

pub system-requires-clause-faces : goal.system-requires-clause-faces
system-requires-clause-faces g c = (
  _,
  are_two (is_kept (kept_then c.equation.ensures.kept c.lifted-2.ensures.kept) (c.in_ok-inside.ensures.lifted c.requires.face.0 (is_of (g.M.Rows.means c.args.maker.now) c.args.face c.requires.face)))
      (is_kept c.lifted-2.ensures.kept c.in_ok-start.ensures.tree),
)

pub system-requires-clause-values : goal.system-requires-clause-values
system-requires-clause-values g c =
    let before = kept_then c.lifted.ensures.kept c.equation.ensures.kept in (
      _,
      are_two (is_kept (kept_then before c.lifted-2.ensures.kept) (is_of (g.M.Rows.means c.args.maker.now) c.args.body c.requires.body))
          (c.in_ok-value.ensures.lifted c.requires.base.0 (is_kept before (is_of (g.M.Rows.means c.args.maker.now) c.args.base c.requires.base))),
    )

pub returns-clause-sides : goal.returns-clause-sides
returns-clause-sides g c p b a i j k =
    let before = kept_then c.lifted.ensures.kept c.equation.ensures.kept in
    c.in_ok-system.ensures.body _ _
    (are_two (is_kept (kept_then c.equation.ensures.kept c.lifted-2.ensures.kept) (c.in_ok-inside.ensures.lifted p i)) (is_kept c.lifted-2.ensures.kept c.in_ok-start.ensures.tree))
    (are_two (is_kept (kept_then before c.lifted-2.ensures.kept) j) (c.in_ok-value.ensures.lifted a (is_kept before k)))
