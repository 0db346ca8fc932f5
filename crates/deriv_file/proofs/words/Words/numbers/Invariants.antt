use Rattle.deriv_file.specs.Words.{BeginWith}
use Rattle.deriv_file.proofs.words.Words.numbers.Given as goal

-- so many are taken
abbrev pub invariant-loop : goal.invariant-loop
invariant-loop l = BeginWith l.initial.self l.counter l.at l.ids l.self
