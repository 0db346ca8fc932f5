use Rattle.std.proofs.Common.{◌≤◌, length}
use Rattle.resolver.specs.Resolved.{defs_in}
use Rattle.session.specs.Loaded.{texts_of}
use Rattle.session.proofs.PlaceLaws.{NoneFrom}
use Rattle.session.proofs.places.last_named.Given as goal

abbrev pub invariant-loop-place : goal.invariant-loop-place
invariant-loop-place l = NoneFrom (texts_of l.program) l.name l.place × (l.place ≤ length (defs_in l.program.codes))

abbrev pub decreases-loop-place : goal.decreases-loop-place
decreases-loop-place l = l.place
