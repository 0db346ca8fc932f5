-- What waits before a tree, weighed.
use Rattle.std.specs.Prelude.{ℕ, zero, List}
use Rattle.std.specs.List.{sum_by}
use Rattle.literal_types.specs.Openings.{weight}
use Rattle.evaluate.specs.declared.look.Waiting.{Waiting}
use Rattle.evaluate.specs.declared.look.Waiting.TheVariants as waiting
use Rattle.evaluate.specs.declared.look.Place.{Place}
use Rattle.evaluate.specs.declared.look.Place.TheVariants as place

-- A substitution weighs more than two earlier ones.
abbrev pub weight_of : Waiting → ℕ
weight_of (waiting.Sub node) = weight node
weight_of (waiting.Past node) = 1

abbrev pub total : List Waiting → ℕ
total = sum_by weight_of

abbrev pub place_weight : Place → ℕ
place_weight (place.Variable index) = zero
place_weight (place.Entry node) = weight node
