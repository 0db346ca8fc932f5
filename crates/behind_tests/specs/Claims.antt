-- Claims and rows over a book.
use Rattle.std.specs.Prelude.{◌≡◌, ℕ, Some}
use Rattle.trees.specs.Judgements.{Judgement}
use Rattle.trees.specs.Things.{Thing}
use Rattle.trees.specs.Claimed.{claimed}
use Rattle.trees.specs.declared.claim.Claim.{Claim}
use Rattle.book.specs.Contents.{Contents}
use Rattle.book.specs.Shown.{book_means}

-- the claim is J
abbrev pub IsClaim : Contents → Claim → Judgement → Type 0
IsClaim b claim J = claimed (book_means b) claim ≡ Some J

-- the row means x
abbrev pub IsRow : Contents → ℕ → Thing → Type 0
IsRow b row x = book_means b row ≡ Some x
