-- What comes of definitions that are not all typed.
use Rattle.std.specs.Prelude.{◌≡◌, ◌<◌, ℕ}
use Rattle.session.specs.declared.others.Other.{Other}
use Rattle.session.specs.declared.others.Other.TheVariants.{Refuted, Spent, NotTaken}
use Rattle.session.specs.Refutals.{IsRefutal}

-- of so many, of which this is the first that is not direct
abbrev pub IsOther : ℕ → ℕ → Other → Type 0
IsOther count first (Refuted place refutal) = (place.definition < count) × IsRefutal refutal
IsOther count first (Spent place) = place.definition < count
IsOther count first (NotTaken k) = k ≡ first
