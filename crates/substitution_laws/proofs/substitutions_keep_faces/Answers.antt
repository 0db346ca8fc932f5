use Rattle.pattern_sides.proofs.UnderLaws.{formula-under, face-under}
use Rattle.substitution_laws.proofs.NameLaws.{takes}
use Rattle.substitution_laws.proofs.substitutions_keep_faces.Goals as goal

pub returns-clause-formulas : goal.returns-clause-formulas
returns-clause-formulas c = λ H G d r proof is. formula-under G H d (takes H d G proof) r is

pub returns-clause-faces : goal.returns-clause-faces
returns-clause-faces c = λ H G d p proof is. face-under p G H d (takes H d G proof) is
