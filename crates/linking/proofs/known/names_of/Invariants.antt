use Rattle.std.proofs.Common.{◌≡◌, take}
use Rattle.resolver.specs.Resolved.{bound_by}
use Rattle.linking.proofs.known.names_of.Given as goal

abbrev pub invariant-loop-def : goal.invariant-loop-def
invariant-loop-def l = l.names ≡ bound_by l.bytes (take l.def-index l.defs)
