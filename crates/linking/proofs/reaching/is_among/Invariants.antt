use Rattle.std.proofs.Common.{◌≡◌, bytes_eq, map, take, false}
use Rattle.std.specs.Prelude.{string_bytes}
use Rattle.std.specs.List.{list_any}
use Rattle.linking.proofs.reaching.is_among.Given as goal

abbrev pub invariant-loop-other : goal.invariant-loop-other
invariant-loop-other l = list_any (bytes_eq l.name) (map string_bytes (take l.other-index l.names)) ≡ false
