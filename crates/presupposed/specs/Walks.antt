-- What walks find.
use Rattle.std.specs.Prelude.{◌≡◌, ℕ, Some, reverse}
use Rattle.trees.specs.Judgements.{Judgement}
use Rattle.book.specs.Contents.{Contents}
use Rattle.book.specs.declared.kernel.NodeId.{NodeId}
use Rattle.typed_nodes.specs.Typed.{Says}
use Rattle.presupposed.specs.declared.memory.Memory.{Memory}
use Rattle.presupposed.specs.declared.memory.Question.{Question}
use Rattle.presupposed.specs.declared.tasks.Task.{Task}
use Rattle.presupposed.specs.declared.walk.Search.{Search}
use Rattle.presupposed.specs.Memory.{remembered}
use Rattle.presupposed.specs.Asked.{Stands}
use Rattle.presupposed.specs.Tasks.{Does, DoAll, work}

-- what was found answers its question
abbrev pub Remembers : Contents → Memory → Type 0
Remembers b memory = (q : Question) (node : NodeId) → remembered memory q ≡ Some node
    → (J : Judgement) × Stands b q J × Says b node J

-- All that was found is right, and where I is found next, what is to be done finds J in the end.
pub record Leads (b : Contents) (search : Search) (top : Question) (I J : Judgement) : Type 0 where
  pub remembers : Remembers b search.memory
  pub last : Judgement
  pub says : Says b search.found last
  pub leads : DoAll b top (reverse search.tasks.items) I J

-- the task finds I of what was found last
abbrev pub DoesNext : Contents → Search → Question → Task → Judgement → Type 0
DoesNext b search top task I =
    (K : Judgement) × Says b search.found K × Does b top task K I

-- what is to be done finds J in the end
abbrev pub Goes : Contents → Search → Question → Judgement → Type 0
Goes b search top J = (K : Judgement) × Says b search.found K × Leads b search top K J

-- what the tasks weigh
abbrev pub to_do : Search → ℕ
to_do search = work (reverse search.tasks.items)
