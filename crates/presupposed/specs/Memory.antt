-- What contracts see of what was found.
use Rattle.std.specs.Prelude.{◌≡◌, ◌⊎◌, Option, Some}
use Rattle.indexmap.specs.IndexMap.{get}
use Rattle.book.specs.declared.kernel.NodeId.{NodeId}
use Rattle.presupposed.specs.declared.memory.Question.{Question}
use Rattle.presupposed.specs.declared.memory.Memory.{Memory}
use Rattle.presupposed.specs.contracts.memory.QuestionPartialEq.TheImpl.{eq-value}

-- the node that was found
abbrev pub remembered : Memory → Question → Option NodeId
remembered memory q = get eq-value.it memory.nodes q

-- at most one more was found
abbrev pub IsRemembered : Question → NodeId → Memory → Memory → Type 0
IsRemembered question node old new =
    (q : Question) (n : NodeId) → remembered new q ≡ Some n
    → (remembered old q ≡ Some n) ⊎ ((q ≡ question) × (n ≡ node))
