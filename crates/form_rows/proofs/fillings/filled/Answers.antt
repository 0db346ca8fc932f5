use Rattle.form_rows.proofs.RowLaws.{kept_then, tree_kept}
use Rattle.form_rows.proofs.FillLaws.{filled_fits, filled_made}
use Rattle.form_rows.proofs.fillings.filled.Goals as goal

pub filled_on-requires : goal.filled_on-requires
filled_on-requires g c = tree_kept (g.M.Rows.means c.args.maker.now) (g.M.Rows.means c.filled_by.new.maker) c.args.face c.filled_by.ensures.kept c.requires.face

pub lifted-requires : goal.lifted-requires
lifted-requires g c =
    tree_kept (g.M.Rows.means c.args.maker.now) (g.M.Rows.means c.filled_on.new.maker) c.args.base (kept_then c.filled_by.ensures.kept c.filled_on.ensures.kept) c.requires.base

pub make-requires : goal.make-requires
make-requires g c =
    filled_fits c.filled_by.ensures.kept c.filled_on.ensures.kept c.lifted.ensures.kept c.in_ok-sides.ensures.sides c.in_ok-cover.ensures.covers c.in_ok-inside.ensures.lifted
    c.requires.line c.requires.face c.requires.body c.requires.base

pub returns-clause-filled : goal.returns-clause-filled
returns-clause-filled g c A p b a =
    filled_made c.filled_by.ensures.kept c.filled_on.ensures.kept c.lifted.ensures.kept c.in_ok-sides.ensures.sides c.in_ok-cover.ensures.covers c.in_ok-inside.ensures.lifted
    A p b a c.in_ok-make.ensures.meaning
