use Rattle.std.proofs.Common.{refl}
use Rattle.trees.specs.Judgements.{Nil}
use Rattle.trees.specs.Language.{Tm}
use Rattle.presupposed_tests.proofs.asked.type_of_term.Goals as goal

pub type_of-requires : goal.type_of-requires
type_of-requires c =
    let (t, A, says) = c.requires in
    (Nil, A, (Tm Nil t A, says, (refl, refl)))
