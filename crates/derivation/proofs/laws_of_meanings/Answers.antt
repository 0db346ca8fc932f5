use Rattle.derivation.proofs.UniqueLaws.{row_one, rows_one}
use Rattle.derivation.proofs.PrefixLaws.{rows_parts, rows_whole}
use Rattle.derivation.proofs.SoundLaws.{conclusions_sound}
use Rattle.derivation.proofs.laws_of_meanings.Goals as goal

pub returns-clause-row : goal.returns-clause-row
returns-clause-row c = row_one

pub returns-clause-rows : goal.returns-clause-rows
returns-clause-rows c = rows_one

pub returns-clause-parts : goal.returns-clause-parts
returns-clause-parts c = rows_parts

pub returns-clause-whole : goal.returns-clause-whole
returns-clause-whole c = rows_whole

pub returns-clause-sound : goal.returns-clause-sound
returns-clause-sound c = conclusions_sound
