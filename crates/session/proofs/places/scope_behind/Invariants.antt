use Rattle.std.proofs.Common.{◌≡◌, take}
use Rattle.resolver.specs.Resolved.{defs_in}
use Rattle.session.specs.Loaded.{texts_of}
use Rattle.session.specs.Places.{names}
use Rattle.session.specs.Scopes.{numbered_names}
use Rattle.session.proofs.places.scope_behind.Given as goal

abbrev pub invariant-loop-place : goal.invariant-loop-place
invariant-loop-place l =
    l.names ≡ numbered_names (take l.place (names (texts_of l.program))) (take l.place (defs_in l.program.codes))
