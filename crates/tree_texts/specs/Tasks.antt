-- What is left to write of a text, the next first.
use Rattle.std.specs.Prelude.{◌≡◌, ℕ, suc, ◌+◌, ◌<◌, ◌≤◌, List, [], ◌∷◌, ◌++◌, length, drop}
use Rattle.std.specs.Prelude.{reverse, Bool, true, false}
use Rattle.trees.specs.declared.op.Op.TheVariants as op
use Rattle.trees.specs.Operators.{kids_of}
use Rattle.trees.specs.Trees.{Tree, Trees, Make, NoTrees, More, trees_of}
use Rattle.trees.specs.Things.{Meanings}
use Rattle.closures.specs.declared.closure.Closure.{Closure}
use Rattle.closures.specs.Environments.{Waiting}
use Rattle.closures.specs.Closures.{IsClosure, Stands}
use Rattle.tree_frames.specs.Frames.{tree_in, frame_trees, weight, all_weights, FrameStands}
use Rattle.tree_texts.specs.declared.tasks.Task.{Task}
use Rattle.tree_texts.specs.declared.tasks.Task.TheVariants as task
use Rattle.tree_frames.specs.declared.frames.Frame.{Frame}
use Rattle.tree_texts.specs.declared.tasks.Sides.{Sides}
use Rattle.tree_texts.specs.declared.words.Style.{Style}
use Rattle.tree_texts.specs.declared.words.Style.TheVariants as style
use Rattle.tree_texts.specs.Show.{Text, shown, system, further}
use Rattle.tree_texts.specs.Layouts.{text_as, after_kid, kids_text, begun, sides_of, arrow}
use Rattle.tree_texts.specs.Layouts.{words_of}

abbrev pub sides_in : Meanings → List (List Waiting) → Sides → List Text
sides_in f known s = sides_of s.style s.level (tree_in f known s.body) (tree_in f known s.second)

-- what a task writes
abbrev pub task_text : Meanings → List (List Waiting) → Task → Text
task_text f known (task.Write sort level c) = text_as sort level (tree_in f known c)
task_text f known (task.Rest r) = after_kid r.op r.at
    ++ kids_text r.level r.op (suc r.at) (drop (suc r.at) (frame_trees f known r))
task_text f known (task.System s) = system (sides_in f known s)
task_text f known (task.Further s) = further (sides_in f known s)
task_text f known (task.Arrow style level) = arrow style level
task_text f known (task.Say phrase) = words_of phrase

abbrev pub texts : Meanings → List (List Waiting) → List Task → Text
texts f known [] = []
texts f known (t ∷ ts) = task_text f known t ++ texts f known ts

abbrev pub second_weight : Style → Tree → ℕ
second_weight style.Pairs t = weight t
second_weight _ t = 0

abbrev pub sides_weight : Meanings → List (List Waiting) → Sides → ℕ
sides_weight f known s =
    suc (weight (tree_in f known s.body) + second_weight s.style (tree_in f known s.second))

abbrev pub steps_of : Meanings → List (List Waiting) → Task → ℕ
steps_of f known (task.Write sort level c) = weight (tree_in f known c)
steps_of f known (task.Rest r) = suc (all_weights (drop (suc r.at) (frame_trees f known r)))
steps_of f known (task.System s) = sides_weight f known s
steps_of f known (task.Further s) = sides_weight f known s
steps_of f known (task.Arrow style level) = 1
steps_of f known (task.Say phrase) = 1

abbrev pub all_steps : Meanings → List (List Waiting) → List Task → ℕ
all_steps f known [] = 0
all_steps f known (t ∷ ts) = steps_of f known t + all_steps f known ts

-- there is room for one more binder
abbrev pub SidesStand : Meanings → List (List Waiting) → ℕ → ℕ → Sides → Type 0
SidesStand f known start n s =
    (suc s.level ≤ start + n) × IsClosure f known n s.body × IsClosure f known n s.second

-- a task stands, with n below it
abbrev pub TaskStands : Meanings → List (List Waiting) → ℕ → ℕ → Task → Type 0
TaskStands f known start n (task.Write sort level c) =
    (level ≤ start + n) × IsClosure f known n c
TaskStands f known start n (task.Rest r) =
    (r.level ≤ start + n) × FrameStands f known n r × (r.at < kids_of r.op)
TaskStands f known start n (task.System s) = SidesStand f known start n s
TaskStands f known start n (task.Further s) = SidesStand f known start n s
TaskStands f known start n (task.Arrow style level) = Unit {0}
TaskStands f known start n (task.Say phrase) = Unit {0}

-- each of the tasks stands, over so many others
abbrev pub TasksStand : Meanings → List (List Waiting) → ℕ → ℕ → List Task → Type 0
TasksStand f known start n [] = Unit {0}
TasksStand f known start n (t ∷ ts) =
    TaskStands f known start (n + length ts) t × TasksStand f known start n ts

-- kids of an operator were left to do
pub record Leaves (f : Meanings) (known : List (List Waiting)) (r : Frame) (old new : List Task) :
    Type 0 where
  pub more : List Task
  pub tasks : reverse new ≡ more ++ reverse old
  pub text : texts f known more ≡ kids_text r.level r.op r.at (drop r.at (frame_trees f known r))
  pub stand : (start n : ℕ) → r.level ≤ start + n → Stands f known n r.environment
      → TasksStand f known start n more
  pub steps : all_steps f known more ≤ all_weights (drop r.at (frame_trees f known r))

-- a step of a task was done: more was written, and further tasks are left
pub record Opens (f : Meanings) (known now : List (List Waiting)) (t : Task) (before after : Text)
    (old new : List Task) : Type 0 where
  pub more : List Task
  pub tasks : reverse new ≡ more ++ reverse old
  pub text : after ++ texts f now more ≡ before ++ task_text f known t
  pub stand : (start n : ℕ) → TaskStands f known start n t → TasksStand f now start n more
  pub steps : all_steps f now more < steps_of f known t

-- the parts of a term with a system were left to do
pub record LeavesParts (f : Meanings) (known : List (List Waiting)) (r : Frame)
    (old new : List Task) : Type 0 where
  pub more : List Task
  pub tasks : reverse new ≡ more ++ reverse old
  pub text : begun r.op r.level (texts f known more)
      ≡ shown r.level (Make r.op (trees_of (frame_trees f known r)))
  pub stand : (start n : ℕ) → r.level ≤ start + n → Stands f known n r.environment
      → TasksStand f known start n more
  pub steps : all_steps f known more ≤ all_weights (frame_trees f known r)

-- the parts of the first side of a system, and the sides after it
pub record IsSide (f : Meanings) (old new : List (List Waiting)) (c face term rest : Closure) :
    Type 0 where
  pub cover : Tree
  pub whole : tree_in f old c ≡ Make op.Sys (More (tree_in f new face) (More cover
      (More (tree_in f new term) (More (tree_in f new rest) NoTrees))))
  pub stands : (n : ℕ) → IsClosure f old n c
      → IsClosure f new n face × IsClosure f new n term × IsClosure f new n rest

-- the tree is no system of sides
abbrev pub HasNoSide : Tree → Type 0
HasNoSide t = (ts : Trees) → t ≡ Make op.Sys ts → ⊥

-- the sides, from the first on or after one
abbrev pub sides_task : Bool → Sides → Task
sides_task true s = task.System s
sides_task false s = task.Further s
