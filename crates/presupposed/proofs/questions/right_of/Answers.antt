use Rattle.presupposed.proofs.LabelLaws.{right_behind}
use Rattle.presupposed.proofs.questions.right_of.Goals as goal

pub answer-requires-clause-stands : goal.answer-requires-clause-stands
answer-requires-clause-stands c =
    let (left, right, (J, says, is)) = c.requires in
    (right, (J, says, right_behind J left right is))

pub returns-clause-typed : goal.returns-clause-typed
returns-clause-typed c = λ left right equates. let (J, says, is) = equates in c.in_ok-answer.ensures.found right (J, says, right_behind J left right is)
