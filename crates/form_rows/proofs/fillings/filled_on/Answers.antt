use Rattle.form_rows.proofs.RowLaws.{are_two, is_kept, is_of}
use Rattle.form_rows.proofs.fillings.filled_on.Goals as goal

pub cover-requires : goal.cover-requires
cover-requires g c =
    (_, are_two (is_kept c.equation.ensures.kept (c.in_ok-inside.ensures.lifted c.requires.0 (is_of (g.M.Rows.means c.args.maker.now) c.args.face c.requires))) c.in_ok-start.ensures.tree)

pub returns-clause-covers : goal.returns-clause-covers
returns-clause-covers g c p h = c.in_ok-cover.ensures.covers _ (are_two (is_kept c.equation.ensures.kept (c.in_ok-inside.ensures.lifted p h)) c.in_ok-start.ensures.tree)
