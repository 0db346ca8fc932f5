-- What reaches a file of the system, and what comes from it.
use Rattle.std.specs.Prelude.{◌≡◌, ◌<◌, ◌≤◌, ℕ, Bool, true, false, List, ◌++◌, length}
use Rattle.std.specs.Prelude.{IfSome, Option}
use Rattle.std.specs.Io.KnownBytes.{Appends}

-- Whether all that the reader had left was appended to the old bytes, where it tells what that was:
-- if it was below the limit, and else nothing was.
abbrev pub AppendsBelow : Option (List ℕ) → ℕ → List ℕ → List ℕ → Bool → Type 0
AppendsBelow left limit old new true =
    (bytes : List ℕ) × (new ≡ old ++ bytes) × (length bytes < limit) ×
    IfSome left (λ all. bytes ≡ all)
AppendsBelow left limit old new false =
    (new ≡ old) × IfSome left (λ bytes. limit ≤ length bytes)

-- and so of some file
abbrev pub ReadsFile : {F : Type 0} → (F → Option (List ℕ)) → ℕ → List ℕ → List ℕ → Bool → Type 0
ReadsFile {F} left limit old new whole = (file : F) × AppendsBelow (left file) limit old new whole

-- some file took all of the bytes
abbrev pub WritesFile : {F : Type 0} → (F → Option (List ℕ)) → List ℕ → Type 0
WritesFile {F} taken bytes = (before : F) × (after : F) × Appends (taken before) (taken after) bytes
