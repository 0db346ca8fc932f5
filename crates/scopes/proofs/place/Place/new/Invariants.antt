use Rattle.std.proofs.Common.{◌≡◌, map, reverse, take}
use Rattle.scopes.specs.Steps.{named_of}
use Rattle.scopes.proofs.place.Place.new.Given as goal

abbrev pub invariant-loop-name : goal.invariant-loop-name
invariant-loop-name l = l.names ≡ map named_of (reverse (take l.name-index l.name-items))
