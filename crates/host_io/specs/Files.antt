-- What a fetch gives, and what a store does to what is held.
use Rattle.std.specs.Prelude.{◌≡◌, ◌≢◌, ◌<◌, ◌≤◌, ℕ, List, ◌++◌, length}
use Rattle.std.specs.Prelude.{None, Some, IfSome, Option}
use Rattle.std.specs.Option.{option_map}
use Rattle.std.specs.Ordering.{nat_cmp}
use Rattle.std.specs.Cmp.Lexicographic.{slice_cmp}
use Rattle.std.specs.FinMap.{FinMap, get}
use Rattle.host_io.specs.declared.files.Fetched.{Fetched}
use Rattle.host_io.specs.declared.files.Fetched.TheVariants as fetched
use Rattle.host_io.specs.declared.files.Stored.{Stored}
use Rattle.host_io.specs.declared.files.Stored.TheVariants as stored

-- the bytes at each path that is held
abbrev pub Held : Type 0
Held = FinMap (slice_cmp nat_cmp) (List ℕ)

-- the path holds these bytes, or is not held at None, where contents are told
abbrev pub HoldsAt : Option Held → List ℕ → Option (List ℕ) → Type 0
HoldsAt held path bytes = IfSome held (λ files. get files path ≡ bytes)

-- what a fetch of a path appends to the old bytes: what it holds, if that is below the limit
abbrev pub FetchGives : Option Held → List ℕ → ℕ → List ℕ → List ℕ → Fetched → Type 0
FetchGives held path limit old new fetched.Found =
    (bytes : List ℕ) × (new ≡ old ++ bytes) × HoldsAt held path (Some bytes)
    × (length bytes < limit)
FetchGives held path limit old new fetched.Missing = (new ≡ old) × HoldsAt held path None
FetchGives held path limit old new fetched.Failed = new ≡ old
FetchGives held path limit old new fetched.Longer =
    (bytes : List ℕ) × (new ≡ old) × HoldsAt held path (Some bytes) × (limit ≤ length bytes)
FetchGives held path limit old new fetched.Memory = new ≡ old

-- what is told of a path: nothing, or the bytes that it holds, if it is held
abbrev pub told_at : Option Held → List ℕ → Option (Option (List ℕ))
told_at held path = option_map (λ files. get files path) held

-- all other paths hold what they did
abbrev pub KeepsOthers : Option Held → Option Held → List ℕ → Type 0
KeepsOthers old new path = (other : List ℕ) → other ≢ path → told_at new other ≡ told_at old other

-- what a store of bytes at a path does to what is held: one that is not done changes nothing
abbrev pub StoreDoes : Option Held → Option Held → List ℕ → List ℕ → Stored → Type 0
StoreDoes old new path bytes stored.Done = HoldsAt new path (Some bytes) × KeepsOthers old new path
StoreDoes old new path bytes stored.Failed = new ≡ old
StoreDoes old new path bytes stored.Memory = new ≡ old
