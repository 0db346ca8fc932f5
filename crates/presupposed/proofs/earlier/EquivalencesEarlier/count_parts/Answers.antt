use Rattle.std.proofs.Common.{length, refl}
use Rattle.glue_entries.specs.Statements.{equiv_tycong_statement}
use Rattle.presupposed.proofs.EarlierLaws.{count-one}
use Rattle.presupposed.proofs.earlier.EquivalencesEarlier.count_parts.Goals as goal

pub returns-clause-count : goal.returns-clause-count
returns-clause-count c = λ s at. count-one equiv_tycong_statement s c.args._recipe 5 (λ t. length t.kinds) refl at
