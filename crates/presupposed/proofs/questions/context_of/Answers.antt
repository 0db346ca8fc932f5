use Rattle.trees.specs.Language.{Ctx}
use Rattle.presupposed.proofs.LabelLaws.{context_behind}
use Rattle.presupposed.proofs.questions.context_of.Goals as goal

pub answer-requires-clause-stands : goal.answer-requires-clause-stands
answer-requires-clause-stands c =
    let (G, (J, says, is)) = c.requires in
    (Ctx G, (J, says, context_behind J G is))

pub returns-clause-typed : goal.returns-clause-typed
returns-clause-typed c = λ G is_in. let (J, says, is) = is_in in c.in_ok-answer.ensures.found (Ctx G) (J, says, context_behind J G is)
