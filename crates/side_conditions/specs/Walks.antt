-- Walks that read a tree: what is left to do, the next first, and what was read.
use Rattle.std.specs.Prelude.{◌≡◌, ◌⊎◌, ℕ, suc, ◌+◌, ◌*◌, ◌≤◌, Bool, List, [], ◌∷◌, ◌++◌, length}
use Rattle.std.specs.Prelude.{map, Option, Some, IsSome}
use Rattle.std.specs.List.{All}
use Rattle.trees.specs.Trees.{Tree}
use Rattle.trees.specs.Judgements.{Context}
use Rattle.trees.specs.Things.{Meanings}
use Rattle.closures.specs.Environments.{Waiting, deepest}
use Rattle.closures.specs.Closures.{IsClosure}
use Rattle.side_conditions.specs.Sizes.{size}
use Rattle.side_conditions.specs.declared.subtree.Subtree.{Subtree}
use Rattle.side_conditions.specs.declared.shapes.Shape.{Shape}
use Rattle.side_conditions.specs.declared.reading.Reading.{Reading}
use Rattle.side_conditions.specs.declared.tasks.Task.{Task}
use Rattle.side_conditions.specs.declared.tasks.Task.TheVariants as task
use Rattle.side_conditions.specs.Levels.{indices, with_names}
use Rattle.side_conditions.specs.Readings.{Reads}
use Rattle.side_conditions.specs.Shapes.{tree_at, shape_tree, shape_kids, ShapeFits}
use Rattle.side_conditions.specs.Tables.{Table}

-- the subtree that a task is about
abbrev pub task_at : Task → Subtree
task_at (task.Read s) = s
task_at (task.Combine s shape) = s

-- the tasks for a subtree of that shape before these: its kids come first
abbrev pub asked : Subtree → Shape → List Task → List Task
asked s shape tasks = map task.Read (shape_kids shape) ++ task.Combine s shape ∷ tasks

-- how many steps a task takes at most
abbrev pub steps_of : (Subtree → Tree) → Task → ℕ
steps_of at (task.Read s) = 2 * size (at s)
steps_of at (task.Combine s shape) = 1

abbrev pub all_steps : (Subtree → Tree) → List Task → ℕ
all_steps at [] = 0
all_steps at (t ∷ ts) = steps_of at t + all_steps at ts

-- a task stands, with n below it
abbrev pub TaskStands : Meanings → List (List Waiting) → List Bool → ℕ → Task → Type 0
TaskStands f known names n (task.Read s) = (s.depth ≤ n) × IsClosure f known n s.closure
TaskStands f known names n (task.Combine s shape) =
    (s.depth ≤ n) × IsClosure f known n s.closure
    × All (λ k. IsClosure f known (suc n) k.closure) (shape_kids shape)
    × (shape_tree (tree_at f known) (s.depth + length names) shape ≡ tree_at f known s)
    × ShapeFits names s.depth shape

abbrev pub TasksStand : Meanings → List (List Waiting) → List Bool → List Task → Type 0
TasksStand f known names [] = Unit {0}
TasksStand f known names (t ∷ ts) =
    TaskStands f known names (length ts) t × TasksStand f known names ts

-- each task finds the readings that it needs, where these are present, and the root is read in the
-- end
abbrev pub Leads : Subtree → (Subtree → Type 0) → List Task → Type 0
Leads root present [] = present root
Leads root present (task.Read s ∷ ts) = Leads root (λ q. present q ⊎ (q ≡ s)) ts
Leads root present (task.Combine s shape ∷ ts) =
    All present (shape_kids shape) × Leads root (λ q. present q ⊎ (q ≡ s)) ts

-- what was read is right
abbrev pub AreRight : Type 0 → Meanings → List (List Waiting) → Context → Table → Type 0
AreRight Valued f known G table =
    (s : Subtree) (found : Option Reading) → table s ≡ Some found
    → Reads Valued (with_names s.depth G) (tree_at f known s) found

-- what was read is of subtrees over these nodes, and right in every context with these indices
pub record Remembers (Valued : Type 0) (f : Meanings) (known : List (List Waiting))
    (names : List Bool) (table : Table) : Type 0 where
  pub kept : (s : Subtree) → IsSome (table s) → IsClosure f known deepest s.closure
  pub right : (G : Context) → indices G ≡ names → AreRight Valued f known G table

-- whatever its kids are, the shape over them was read if they were read right
abbrev pub IsCombined : Type 0 → Table → ℕ → Shape → Option Reading → Type 0
IsCombined Valued table count shape found =
    (G : Context) (depth : ℕ) (at : Subtree → Tree) → count ≡ depth + length (indices G)
    → ShapeFits (indices G) depth shape
    → ((s : Subtree) (kid : Option Reading) → table s ≡ Some kid
    → Reads Valued (with_names s.depth G) (at s) kid)
    → Reads Valued (with_names depth G) (shape_tree at count shape) found
