use Rattle.trees.specs.Language.{Ty}
use Rattle.presupposed.proofs.LabelLaws.{type_behind}
use Rattle.presupposed.proofs.questions.type_of.Goals as goal

pub answer-requires-clause-stands : goal.answer-requires-clause-stands
answer-requires-clause-stands c =
    let (G, A, (J, says, is)) = c.requires in
    (Ty G A, (J, says, type_behind J G A is))

pub returns-clause-typed : goal.returns-clause-typed
returns-clause-typed c = λ G A is_at. let (J, says, is) = is_at in c.in_ok-answer.ensures.found (Ty G A) (J, says, type_behind J G A is)
