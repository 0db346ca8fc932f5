use Rattle.std.proofs.Common.{refl}
use Rattle.resolved_forms.proofs.opening.motive_under.Goals as goal

pub returns : goal.returns
returns c =
    let made = c.in_ok-body in
    record { code = made.body; opened = refl; means = made.ensures.means; shaped = made.ensures.shaped }
