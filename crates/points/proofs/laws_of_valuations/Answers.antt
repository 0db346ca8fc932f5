use Rattle.points.proofs.Valuations.{with_value_same, with_value_other}
use Rattle.points.proofs.laws_of_valuations.Goals as goal

pub returns : goal.returns
returns c = record { at_the_name = with_value_same; at_another = with_value_other }
