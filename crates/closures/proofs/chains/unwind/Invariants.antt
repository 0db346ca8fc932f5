use Rattle.std.proofs.Common.{length, reverse}
use Rattle.trees.specs.Things.{Meanings}
use Rattle.closures.specs.declared.notes.Source.{Source}
use Rattle.closures.specs.Chains.{AreRight, Ends}
use Rattle.closures.proofs.chains.unwind.Given as goal

-- what is left tells of the same variable which variable the root is
abbrev pub invariant-loop-wait : goal.invariant-loop-wait
invariant-loop-wait l =
    (f : Meanings) (root : Source) → AreRight f l.fn.notes → Ends f root (reverse l.fn.waits.items) l.index
    → AreRight f l.notes × Ends f root (reverse l.waits.items) l.index

abbrev pub decreases-loop-wait : goal.decreases-loop-wait
decreases-loop-wait l = length l.waits.items
