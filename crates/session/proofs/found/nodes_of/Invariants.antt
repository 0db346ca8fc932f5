use Rattle.std.proofs.Common.{◌≡◌, take}
use Rattle.session.specs.Found.{nodes_of}
use Rattle.session.proofs.found.nodes_of.Given as goal

abbrev pub invariant-loop-root : goal.invariant-loop-root
invariant-loop-root l = l.nodes.items ≡ nodes_of (take l.root-index l.roots)
