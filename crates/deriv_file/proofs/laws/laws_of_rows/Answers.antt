use Rattle.deriv_file.proofs.SpellingLaws.{spells_one}
use Rattle.deriv_file.proofs.RowsLaws.{rows_read_back}
use Rattle.deriv_file.proofs.ReadLaws.{reads_back}
use Rattle.deriv_file.proofs.laws.laws_of_rows.Goals as goal

pub returns : goal.returns
returns c = record { one = spells_one; reads_back = reads_back; rows_read_back = rows_read_back }
