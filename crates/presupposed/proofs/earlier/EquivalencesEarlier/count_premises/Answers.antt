use Rattle.std.proofs.Common.{length, refl}
use Rattle.glue_entries.specs.Statements.{equiv_tycong_statement}
use Rattle.presupposed.proofs.EarlierLaws.{count-one}
use Rattle.presupposed.proofs.earlier.EquivalencesEarlier.count_premises.Goals as goal

pub returns-clause-count : goal.returns-clause-count
returns-clause-count c = λ s at. count-one equiv_tycong_statement s c.args._recipe 7 (λ t. length t.wants) refl at
