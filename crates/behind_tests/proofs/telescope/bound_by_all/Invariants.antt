use Rattle.std.proofs.Common.{length, reverse}
use Rattle.behind_tests.specs.Telescopes.{IsUnder}
use Rattle.behind_tests.proofs.telescope.bound_by_all.Given as goal

abbrev pub invariant-loop-two : goal.invariant-loop-two
invariant-loop-two l = IsUnder l.book (reverse l.arguments.items) l.body

abbrev pub decreases-loop-two : goal.decreases-loop-two
decreases-loop-two l = length l.arguments.items
