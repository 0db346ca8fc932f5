use Rattle.std.proofs.Common.{◌≡◌, None, take}
use Rattle.productions.specs.Words.{pieces}
use Rattle.grammar.specs.Faults.{first_refused as refused_place}
use Rattle.grammar.proofs.reading.first_refused.Given as goal

abbrev pub invariant-loop-token : goal.invariant-loop-token
invariant-loop-token l = refused_place (take l.token-index (pieces l.tokens)) ≡ None
