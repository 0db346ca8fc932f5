use Rattle.std.proofs.Common.{◌≡◌, take, map}
use Rattle.book_writer.proofs.writer.node_numbers.Given as goal

abbrev pub invariant-loop-node : goal.invariant-loop-node
invariant-loop-node l = l.found.items ≡ map (λ node. node.0) (take l.node-index l.nodes)
