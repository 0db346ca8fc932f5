use Rattle.substitution.proofs.RaiseLaws.{entry_under-below, entry_under-above, look-past}
use Rattle.substitution.proofs.laws_of_indices.Goals as goal

pub returns : goal.returns
returns c = record { below = entry_under-below; above = entry_under-above; past = look-past }
