use Rattle.book.specs.Shown.{Extends}
use Rattle.behind_tests.proofs.asking.ask_every_node.Given as goal

abbrev pub invariant-loop-node : goal.invariant-loop-node
invariant-loop-node l = Extends l.initial.book l.book
