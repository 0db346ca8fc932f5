use Rattle.std.proofs.Common.{refl}
use Rattle.trees.specs.Language.{Ctx, Sb}
use Rattle.presupposed.proofs.questions.home_of.Goals as goal

pub answer-requires-clause-stands : goal.answer-requires-clause-stands
answer-requires-clause-stands c =
    let (H, G, d, says) = c.requires in
    (Ctx G, (Sb H d G, says, refl))

pub returns-clause-typed : goal.returns-clause-typed
returns-clause-typed c = λ H G d says. c.in_ok-answer.ensures.found (Ctx G) (Sb H d G, says, refl)
