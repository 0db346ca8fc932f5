-- What waits, weighed.
use Rattle.std.proofs.Common.{◌≡◌, ◌+◌, List, [], ◌∷◌, ◌++◌, arith}
use Rattle.std.proofs.lemmas.List.Sums.{sum_by-append}
use Rattle.literal_types.proofs.WeightLaws.{some_weight, one_earlier, two_earlier}
use Rattle.evaluate.specs.declared.look.Waiting.{Waiting}
use Rattle.evaluate.specs.Waiting.{total, weight_of}

pub total_more : (ws : List Waiting) (w : Waiting) → total (ws ++ w ∷ []) ≡ total ws + weight_of w
total_more ws w = let e = sum_by-append weight_of ws (w ∷ []) in omega (arith, e)

pub ruleset walking = (total_more, some_weight, one_earlier, two_earlier)
