-- The rows of a file as they are held, and the claims that stand apart.
use Rattle.std.specs.Prelude.{◌≡◌, List, ◌++◌, true, Option, Some, is_some}
use Rattle.std.specs.Prelude.{unwrap_or, slice_get, map, option_and_then}
use Rattle.std.specs.List.{list_all}
use Rattle.trees.specs.declared.claim.Claim.{Claim}
use Rattle.replay.specs.declared.filed.Filed.{Filed}
use Rattle.replay.specs.declared.filed.Filed.TheVariants as filed
use Rattle.replay.specs.declared.filed_rows.Held.{Held}
use Rattle.replay.specs.declared.filed_rows.Held.TheVariants as held

-- the row that is held so, where its claim is there
abbrev pub filed_as : List Claim → Held → Option Filed
filed_as claims (held.Thing row) = Some (filed.Thing row)
filed_as claims (held.Node at) =
    option_and_then (λ claim. Some (filed.Node claim)) (slice_get claims at)
filed_as claims held.Nothing = Some filed.Nothing

abbrev pub filed_list : List Claim → List Held → List Filed
filed_list claims rows = map (λ h. unwrap_or (filed_as claims h) filed.Nothing) rows

-- every claim is there
abbrev pub AllHeld : List Claim → List Held → Type 0
AllHeld claims rows = list_all (λ h. is_some (filed_as claims h)) rows ≡ true

-- more claims stand after the old ones
abbrev pub Longer : List Claim → List Claim → Type 0
Longer old new = (more : List Claim) × (new ≡ old ++ more)
