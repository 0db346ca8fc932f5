use Rattle.std.proofs.Common.{length, refl}
use Rattle.kan_fill.specs.Statements.{contr_statement}
use Rattle.kan_calls.proofs.CallLaws.{count-one}
use Rattle.kan_calls.proofs.earlier.ContractionEarlier.count_parts.Goals as goal

pub returns-clause-count : goal.returns-clause-count
returns-clause-count c = λ s at. count-one contr_statement s c.args._recipe 5 (λ t. length t.kinds) refl at
