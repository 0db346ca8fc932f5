-- How moves are counted.
use Rattle.std.specs.Prelude.{◌≡◌, ◌<◌, ◌+◌, ℕ}
use Rattle.answering.specs.declared.moves.Outcome.{Outcome}
use Rattle.answering.specs.declared.moves.Outcome.TheVariants as outcome
use Rattle.answering.specs.declared.moves.Run.{Run}
use Rattle.answering.specs.declared.moves.Next.{Next}
use Rattle.answering.specs.declared.moves.Next.TheVariants as next

-- a move is one more
abbrev pub CountsOne : Run → Next → Type 0
CountsOne run (next.Moved later) = later.moves ≡ run.moves + 1
CountsOne run (next.Replied reply) = Unit {0}

-- a reply comes before so many moves, and without one there are exactly so many
abbrev pub IsWithin : ℕ → Outcome → Type 0
IsWithin most (outcome.Replied reply moves) = moves < most
IsWithin most (outcome.Spent moves) = moves ≡ most
