use Rattle.std.proofs.Common.{IsSome}
use Rattle.book_writer.specs.Written.{concluded_by}
use Rattle.behind_tests.proofs.asking.every_node.Given as goal

abbrev pub invariant-loop-node : goal.invariant-loop-node
invariant-loop-node l = IsSome (concluded_by l.book l.nodes.items)
