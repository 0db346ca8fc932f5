use Rattle.std.proofs.Common.{refl}
use Rattle.resolved_forms.proofs.opening.line_under.Goals as goal

pub returns : goal.returns
returns c =
    let made = c.in_ok-under in
    record { code = made.under; opened = refl; means = made.ensures.means; shaped = made.ensures.shaped }
