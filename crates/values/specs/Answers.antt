-- The answers that are kept.
use Rattle.std.specs.Prelude.{◌++◌, List, [], ◌∷◌, Option, is_some, if◌then◌else◌}
use Rattle.std.specs.Map.{lookup}
use Rattle.values.specs.declared.questions.Question.{Question}
use Rattle.values.specs.declared.answers.Kept.{Kept}
use Rattle.values.specs.contracts.questions.QuestionPartialEq.TheImpl.{eq-value}

-- the answer that stands with a question
abbrev pub answer_to : List (Question × Kept) → Question → Option Kept
answer_to pairs q = lookup (eq-value.it q) pairs

-- one more pair, unless the question has its answer
abbrev pub with_answer : List (Question × Kept) → Question → Kept → List (Question × Kept)
with_answer pairs q answer =
    if is_some (answer_to pairs q) then pairs else pairs ++ (q, answer) ∷ []
