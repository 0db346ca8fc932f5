-- What tasks find, and what they weigh.
use Rattle.std.specs.Prelude.{◌≡◌, ◌<◌, ◌≤◌, ◌+◌, ◌*◌, ◌-◌, ◌^◌, ℕ, suc, List, [], ◌∷◌, ◌++◌}
use Rattle.std.specs.Prelude.{length, take, Some, true}
use Rattle.std.specs.List.{list_all}
use Rattle.trees.specs.Trees.{Tree}
use Rattle.trees.specs.Judgements.{Context, Judgement, trees}
use Rattle.trees.specs.Language.{Ctx, Tm, Ty}
use Rattle.trees.specs.Things.{meanings}
use Rattle.book.specs.Contents.{Contents}
use Rattle.book.specs.Nodes.{Node}
use Rattle.book.specs.Shown.{book_concludes, book_nodes}
use Rattle.book.specs.declared.kernel.NodeId.{NodeId}
use Rattle.typed_nodes.specs.Typed.{Says}
use Rattle.glue_entries.specs.Statements.{equiv_tycong_statement}
use Rattle.presuppositions.specs.declared.source.Label.{Label}
use Rattle.presuppositions.specs.declared.source.Label.TheVariants as label
use Rattle.presuppositions.specs.declared.source.Source.{Source}
use Rattle.presuppositions.specs.declared.source.Source.TheVariants as source
use Rattle.presuppositions.specs.declared.source.Entry.{Entry}
use Rattle.presuppositions.specs.Behind.{behind, tree_views}
use Rattle.presuppositions.specs.Entries.{IsEntry}
use Rattle.presuppositions.specs.Sources.{sources}
use Rattle.presuppositions.specs.Sought.{is_of_parts, is_sought}
use Rattle.presupposed.specs.declared.memory.Question.{Question}
use Rattle.presupposed.specs.declared.tasks.Task.{Task}
use Rattle.presupposed.specs.declared.tasks.Task.TheVariants as task
use Rattle.presupposed.specs.Asked.{IsOnTheWay, Stands, Unfolds}
use Rattle.presupposed.specs.Parts.{IsInSight}

abbrev pub place_of : Source → ℕ
place_of (source.Premise k) = k
place_of (source.Behind k l) = k
place_of (source.Further k l m) = k

abbrev pub asked : NodeId → Label → Question
asked node l = record { node = node; label = l }

-- what finds a source, of its premise
abbrev pub tasks_for : NodeId → Source → List Task
tasks_for premise (source.Premise k) = task.Take premise ∷ []
tasks_for premise (source.Behind k l) = task.Ask (asked premise l) ∷ []
tasks_for premise (source.Further k label.Context m) =
    task.Ask (asked premise label.Context) ∷ task.LastEntry m ∷ []
tasks_for premise (source.Further k l m) =
    task.Ask (asked premise l) ∷ task.PartIn (asked premise label.Context) m ∷ []

-- The nodes conclude the first sources of the entry for a question that J answers.
pub record Fills (b : Contents) (q : Question) (e : Entry) (few : List ℕ) (J : Judgement) :
    Type 0 where
  pub stands : Stands b q J
  pub made : Node
  pub made_is : book_nodes b q.node.0 ≡ Some made
  pub entry
      : IsEntry (equiv_tycong_statement ∷ []) made.rule q.label e.sources.now e.rows.now e.last
  -- what the premises of the rule conclude
  pub wants : List Judgement
  pub wants_are : meanings (book_concludes b) made.premises ≡ Some wants
  pub sought : list_all (is_sought trees tree_views wants q.label) e.sources.now ≡ true
  -- what the sources name, and the first of them
  pub all : List Judgement
  pub all_are : sources wants e.sources.now ≡ Some all
  pub within : length few ≤ length e.sources.now
  pub named : List Judgement
  pub named_are : meanings (book_concludes b) few ≡ Some named
  pub first : sources wants (take (length few) e.sources.now) ≡ Some named

-- K is the next source of an entry that is so filled.
pub record Awaits (b : Contents) (q : Question) (e : Entry) (few : List ℕ) (K J : Judgement) :
    Type 0 where
  pub fills : Fills b q e few J
  pub more : length few < length e.sources.now
  pub next : sources fills.wants (take (suc (length few)) e.sources.now)
      ≡ Some (fills.named ++ K ∷ [])

-- On the way to a question, where K was found last, the task finds J.
abbrev pub Does : Contents → Question → Task → Judgement → Judgement → Type 0
Does b top (task.Take node) K J = Says b node J
Does b top (task.Ask q) K J = IsOnTheWay top q × Stands b q J
Does b top (task.Unfold node) K J =
    (G : Context) × (a c A : Tree) × (K ≡ Ctx G) × Unfolds b node G a c A × (J ≡ Tm G c A)
Does b top (task.LastEntry l) K J =
    (G : Context) × (K ≡ Ctx G) × IsInSight l G × (behind l (Ctx G) ≡ Some J)
Does b top (task.PartIn q l) K J =
    (G : Context) × (T : Tree) × (K ≡ Ty G T) × IsOnTheWay top q × Stands b q (Ctx G)
    × (is_of_parts l ≡ true) × (behind l (Ty G T) ≡ Some J)
Does b top (task.PartOf ty l) K J =
    (G : Context) × (T : Tree) × (K ≡ Ctx G) × Says b ty (Ty G T)
    × (is_of_parts l ≡ true) × (behind l (Ty G T) ≡ Some J)
Does b top (task.Fill q e few) K J = IsOnTheWay top q × Awaits b q e few K J

-- The tasks one after another find J in the end.
abbrev pub DoAll : Contents → Question → List Task → Judgement → Judgement → Type 0
DoAll b top [] K J = K ≡ J
DoAll b top (t ∷ ts) K J = (I : Judgement) × Does b top t K I × DoAll b top ts I J

-- A question weighs more than what its entry asks: at most 16 sources, each of at most two
-- questions of an earlier node. That for a right side weighs more than that for the context of the
-- node, where it is unfolded.

abbrev pub weight : NodeId → ℕ
weight node = 64 ^ node.0

abbrev pub label_weight : Label → ℕ
label_weight label.Right = 2
label_weight _ = 0

abbrev pub task_weight : Task → ℕ
task_weight (task.Take node) = 1
task_weight (task.Ask q) = 64 * weight q.node + label_weight q.label
task_weight (task.Unfold node) = 1
task_weight (task.LastEntry l) = 1
task_weight (task.PartIn q l) = 64 * weight q.node + 4
task_weight (task.PartOf node l) = 1
task_weight (task.Fill q e few) = (16 - length few) * (3 * weight q.node) + 1

abbrev pub work : List Task → ℕ
work [] = 0
work (t ∷ ts) = task_weight t + work ts
