use Rattle.std.proofs.Common.{◌≡◌, [], Some, take}
use Rattle.productions.specs.Words.{pieces}
use Rattle.productions.specs.Grammar.{nothing}
use Rattle.productions.specs.Machine.{run, to}
use Rattle.parser_states.specs.View.{top_of, view}
use Rattle.grammar.proofs.reading.run.Given as goal

abbrev pub invariant-loop-token : goal.invariant-loop-token
invariant-loop-token l = run (to (top_of l.fn.top) nothing []) (take l.token-index (pieces l.tokens)) ≡ Some (view l.parser)
