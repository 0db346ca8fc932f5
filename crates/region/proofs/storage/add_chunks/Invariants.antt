use Rattle.std.proofs.Common.{◌-◌, length}
use Rattle.region.specs.Layouts.{KeepsChunks}
use Rattle.region.proofs.storage.add_chunks.Given as goal

abbrev pub invariant-more : goal.invariant-more
invariant-more l = KeepsChunks (length l.fn.chunks.items) l.fn.chunks.items l.chunks.items

abbrev pub decreases-more : goal.decreases-more
decreases-more l = l.wanted - length l.chunks.items
