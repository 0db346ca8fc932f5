use Rattle.std.proofs.Common.{◌∙◌}
use Rattle.form_rows.proofs.RowLaws.{kept_then}
use Rattle.form_rows.proofs.FillLaws.{is_slanted}
use Rattle.form_rows.proofs.fillings.slant.Goals as goal

pub returns-clause-kept : goal.returns-clause-kept
returns-clause-kept g c =
    kept_then c.var.ensures.kept (kept_then c.var-2.ensures.kept (kept_then c.make.ensures.kept (kept_then c.shift.ensures.kept c.push.ensures.kept)))

pub returns-clause-slants : goal.returns-clause-slants
returns-clause-slants g c =
    c.in_ok-push.ensures.meaning
    ∙ is_slanted c.var-2.ensures.kept c.shift.ensures.kept c.in_ok-outer.ensures.meaning c.in_ok-inner.ensures.meaning c.in_ok-least.ensures.meaning c.in_ok-past.ensures.meaning
