use Rattle.std.proofs.Common.{◌≡◌, ◌++◌, take}
use Rattle.linking.proofs.reaching.copy_names.Given as goal

abbrev pub invariant-loop-name : goal.invariant-loop-name
invariant-loop-name l = l.into ≡ l.fn.into ++ take l.name-index l.names
