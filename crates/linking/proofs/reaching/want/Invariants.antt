use Rattle.std.proofs.Common.{◌≡◌, take}
use Rattle.linking.specs.Reaching.{either}
use Rattle.linking.proofs.reaching.want.Given as goal

abbrev pub invariant-loop-at : goal.invariant-loop-at
invariant-loop-at l = l.wanted ≡ either l.fn.wanted (take l.at l.imports)
