-- Tables of slots that find rows by their hashes.
use Rattle.std.specs.Prelude.{◌≡◌, ℕ, zero, suc, ◌+◌, ◌-◌, ◌*◌, ◌/◌, ◌%◌, ◌^◌, ◌<◌, max, List}
use Rattle.std.specs.Prelude.{length, nat_lt, if◌then◌else◌, bit_and, bit_or, slice_index}
use Rattle.std.specs.Prelude.{slice_set}

-- how many slots a search looks at in runs, before it goes over all slots in order
abbrev pub in_runs : ℕ
in_runs = 2048

-- how many slots a search looks at in all
abbrev pub reach : ℕ → ℕ
reach size = in_runs + size

-- the slot of a table of so many that a search for this hash looks at when it has looked at so many
-- others: runs of 16, each a leap of the hash's own after the one before, and then all slots in
-- order
unfoldable pub searched : ℕ → ℕ → ℕ → ℕ
searched size hash at =
    let leap = bit_or (hash / 2 ^ 32) 1 in
    let run = (hash + at / 16 * leap % 2 ^ 64) % 2 ^ 64 in
    if nat_lt at in_runs then bit_and ((run + at % 16) % 2 ^ 64) (size - 1) else at - in_runs

-- what marks the slot of a row of this hash; a free slot is marked 0
unfoldable pub mark_of : ℕ → ℕ
mark_of hash = max (hash / 2 ^ 48) 1

-- how many rows a table of so many slots may hold: three in four
abbrev pub most_rows : ℕ → ℕ
most_rows size = size - size / 4

-- the search passes taken slots alone before the one that it comes to after so many
abbrev pub PassesTaken : List ℕ → ℕ → ℕ → Type 0
PassesTaken marks hash at =
    (j : ℕ) → j < at → 0 < slice_index marks (searched (length marks) hash j)

-- the first free slot that a search for this hash comes to
pub record IsFirstFree (marks : List ℕ) (hash slot : ℕ) : Type 0 where
  pub at : ℕ
  pub within : at < reach (length marks)
  pub is : slot ≡ searched (length marks) hash at
  pub free : slice_index marks slot ≡ 0
  pub passed : PassesTaken marks hash at

abbrev pub HasFree : List ℕ → Type 0
HasFree marks = (i : ℕ) × (i < length marks) × (slice_index marks i ≡ 0)

-- the slot names this row, the slot was free, and a search for the row passes taken slots alone
-- before it
pub record IsNewest (hash : ℕ) (marks ids : List ℕ) (id slot : ℕ) : Type 0 where
  pub at : ℕ
  pub within : at < reach (length marks)
  pub is : slot ≡ searched (length marks) hash at
  pub marked : slice_index marks slot ≡ mark_of hash
  pub names : slice_index ids slot ≡ id
  pub passed : PassesTaken (slice_set marks slot 0) hash at

-- the table of the first n rows of these hashes, put in one after another: without the last one it
-- is the table of the others
abbrev pub IsTable : (ℕ → ℕ) → List ℕ → List ℕ → ℕ → Type 0
IsTable hashes marks ids zero = (i : ℕ) → i < length marks → slice_index marks i ≡ 0
IsTable hashes marks ids (suc n) =
    (slot : ℕ) × IsNewest (hashes n) marks ids n slot ×
    IsTable hashes (slice_set marks slot 0) ids n

-- a taken slot names the row; with it taken away the table is this
pub record IsTakenAway (marks ids : List ℕ) (id : ℕ) (left : List ℕ) : Type 0 where
  pub slot : ℕ
  pub within : slot < length marks
  pub taken : 0 < slice_index marks slot
  pub names : slice_index ids slot ≡ id
  pub is : left ≡ slice_set marks slot 0

-- a search for the hash comes to a taken slot that names the row
pub record IsNamed (marks ids : List ℕ) (hash id : ℕ) : Type 0 where
  pub at : ℕ
  pub within : at < reach (length marks)
  pub taken : 0 < slice_index marks (searched (length marks) hash at)
  pub names : slice_index ids (searched (length marks) hash at) ≡ id
