-- The text of a tree, task by task.
use Rattle.std.proofs.Common.{◌≡◌, ℕ, suc, ◌+◌, ◌≤◌, List, [], ◌∷◌, ◌++◌, length, drop, reverse, refl, sym, ◌∙◌, ap, ap₂, subst, arith, append_assoc, append-nil}
use Rattle.std.proofs.lemmas.List.{reverse-append, length-append}
use Rattle.trees.specs.Things.{Meanings}
use Rattle.rows.specs.Views.{IsTree}
use Rattle.rows.specs.Tables.{Grows}
use Rattle.rows.specs.declared.views.TermId.{TermId}
use Rattle.closures.specs.declared.closure.Closure.{Closure}
use Rattle.closures.specs.declared.environments.Environment.TheVariants as env
use Rattle.closures.specs.Environments.{Waiting}
use Rattle.closures.proofs.HeadLaws.{closure-grows, closure_meaning-grows, stands-grows, row-stands}
use Rattle.side_conditions.specs.Shapes.{tree_of}
use Rattle.side_conditions.proofs.WalkLaws.{row_tree}
use Rattle.tree_texts.specs.declared.words.Sort.{Sort}
use Rattle.tree_texts.specs.declared.tasks.Task.{Task}
use Rattle.tree_texts.specs.declared.tasks.Task.TheVariants as task
use Rattle.tree_frames.proofs.FrameLaws.{trees-grow, tree-grows}
use Rattle.tree_texts.specs.Show.{Text, system, further}
use Rattle.tree_texts.specs.Layouts.{text_as, after_kid, kids_text, sides_of}
use Rattle.tree_frames.specs.Frames.{tree_in, weight, all_weights}
use Rattle.tree_texts.specs.Tasks.{task_text, texts, steps_of, all_steps, TaskStands, TasksStand, Opens, SidesStand, sides_in, sides_weight, second_weight}
use Rattle.tree_texts.specs.declared.tasks.Sides.{Sides}

-- what is written and what is left are the text, and each task stands
pub record Writes (f : Meanings) (start : ℕ) (whole : Text) (known : List (List Waiting)) (written : Text) (tasks : List Task) : Type 0 where
  pub stand : TasksStand f known start 0 tasks
  pub text : written ++ texts f known tasks ≡ whole

-- nodes that are added

sides-grow : (f : Meanings) (known new : List (List Waiting)) (start n : ℕ) (s : Sides) → Grows known new → SidesStand f known start n s → sides_in f new s ≡ sides_in f known s
sides-grow f known new start n s g stands = ap₂ (sides_of s.style s.level) (tree-grows f known new n s.body g stands.1) (tree-grows f known new n s.second g stands.2)

weight-grows : (f : Meanings) (known new : List (List Waiting)) (start n : ℕ) (s : Sides) → Grows known new → SidesStand f known start n s → sides_weight f new s ≡ sides_weight f known s
weight-grows f known new start n s g stands = ap₂ (λ b w. suc (weight b + second_weight s.style w)) (tree-grows f known new n s.body g stands.1) (tree-grows f known new n s.second g stands.2)

text-grows : (f : Meanings) (known new : List (List Waiting)) (start n : ℕ) (t : Task) → Grows known new → TaskStands f known start n t → task_text f new t ≡ task_text f known t
text-grows f known new start n (task.Write s level c) g stands = ap (λ x. text_as s level (tree_of x)) (closure_meaning-grows f known new c g stands.1.environment.within)
text-grows f known new start n (task.Rest r) g stands = ap (λ ts. after_kid r.op r.at ++ kids_text r.level r.op (suc r.at) (drop (suc r.at) ts)) (trees-grow f known new n r g stands.1)
text-grows f known new start n (task.System s) g stands = ap system (sides-grow f known new start n s g stands)
text-grows f known new start n (task.Further s) g stands = ap further (sides-grow f known new start n s g stands)
text-grows f known new start n (task.Arrow style level) g stands = refl
text-grows f known new start n (task.Say phrase) g stands = refl

steps-grow : (f : Meanings) (known new : List (List Waiting)) (start n : ℕ) (t : Task) → Grows known new → TaskStands f known start n t → steps_of f new t ≡ steps_of f known t
steps-grow f known new start n (task.Write s level c) g stands = ap (λ x. weight (tree_of x)) (closure_meaning-grows f known new c g stands.1.environment.within)
steps-grow f known new start n (task.Rest r) g stands = ap (λ ts. suc (all_weights (drop (suc r.at) ts))) (trees-grow f known new n r g stands.1)
steps-grow f known new start n (task.System s) g stands = weight-grows f known new start n s g stands
steps-grow f known new start n (task.Further s) g stands = weight-grows f known new start n s g stands
steps-grow f known new start n (task.Arrow style level) g stands = refl
steps-grow f known new start n (task.Say phrase) g stands = refl

task-grows : (f : Meanings) (known new : List (List Waiting)) (start n : ℕ) (t : Task) → Grows known new → TaskStands f known start n t → TaskStands f new start n t
task-grows f known new start n (task.Write s level c) g stands = (stands.0, closure-grows f known new n c g stands.1)
task-grows f known new start n (task.Rest r) g stands = (
  stands.0,
  record { count = stands.1.count; rows = stands.1.rows; environment_stands = stands-grows f known new n r.environment g stands.1.environment_stands },
  stands.2,
)
task-grows f known new start n (task.System s) g stands = (stands.0, closure-grows f known new n s.body g stands.1, closure-grows f known new n s.second g stands.2)
task-grows f known new start n (task.Further s) g stands = (stands.0, closure-grows f known new n s.body g stands.1, closure-grows f known new n s.second g stands.2)
task-grows f known new start n (task.Arrow style level) g stands = tt
task-grows f known new start n (task.Say phrase) g stands = tt

record Grown (f : Meanings) (known new : List (List Waiting)) (start n : ℕ) (ts : List Task) : Type 0 where
  pub stand : TasksStand f new start n ts
  pub text : texts f new ts ≡ texts f known ts
  pub steps : all_steps f new ts ≡ all_steps f known ts

grown : (f : Meanings) (known new : List (List Waiting)) (start n : ℕ) (ts : List Task) → Grows known new → TasksStand f known start n ts → Grown f known new start n ts
grown f known new start n [] g stand = record { stand = tt; text = refl; steps = refl }
grown f known new start n (t ∷ ts) g stand =
    let h = grown f known new start n ts g stand.1 in
    record {
      stand = (task-grows f known new start (n + length ts) t g stand.0, h.stand);
      text = ap₂ ◌++◌ (text-grows f known new start (n + length ts) t g stand.0) h.text;
      steps = ap₂ ◌+◌ (steps-grow f known new start (n + length ts) t g stand.0) h.steps;
    }

-- lists of tasks

texts-append : (f : Meanings) (known : List (List Waiting)) (ts us : List Task) → texts f known (ts ++ us) ≡ texts f known ts ++ texts f known us
texts-append f known [] us = refl
texts-append f known (t ∷ ts) us = ap (λ x. task_text f known t ++ x) (texts-append f known ts us) ∙ sym (append_assoc (task_text f known t) (texts f known ts) (texts f known us))

steps-append : (f : Meanings) (known : List (List Waiting)) (ts us : List Task) → all_steps f known (ts ++ us) ≡ all_steps f known ts + all_steps f known us
steps-append f known [] us = omega arith
steps-append f known (t ∷ ts) us = let h = steps-append f known ts us in omega arith

stand-append : (f : Meanings) (known : List (List Waiting)) (start : ℕ) (ts us : List Task) → TasksStand f known start (length us) ts → TasksStand f known start 0 us → TasksStand f known start 0 (ts ++ us)
stand-append f known start [] us over stand = stand
stand-append f known start (t ∷ ts) us over stand =
    let place : length us + length ts ≡ 0 + length (ts ++ us) = let l = length-append ts us in omega arith in
    (subst (λ n. TaskStands f known start n t) place over.0, stand-append f known start ts us over.1 stand)

-- the first task, and those after it
pub record Next (f : Meanings) (start : ℕ) (whole : Text) (known : List (List Waiting)) (written : Text) (items rest : List Task) (t : Task) : Type 0 where
  pub order : reverse items ≡ t ∷ reverse rest
  pub writes : Writes f start whole known written (t ∷ reverse rest)

pub next-task : {f : Meanings} {start : ℕ} {whole : Text} {known : List (List Waiting)} {written : Text} {items rest : List Task} {last t : Task} → items ≡ rest ++ last ∷ [] → last ≡ t → Writes f start whole known written (reverse items) → Next f start whole known written items rest t
next-task {f = f} {start = start} {whole = whole} {known = known} {written = written} {items = items} {rest = rest} {last = last} {t = t} popped is w =
    let order : reverse items ≡ t ∷ reverse rest = ap reverse popped ∙ reverse-append rest (last ∷ []) ∙ ap (λ x. x ∷ reverse rest) is in
    record { order = order; writes = subst (Writes f start whole known written) order w }

pub next-opened : {f : Meanings} {start : ℕ} {whole : Text} {known : List (List Waiting)} {written : Text} {items rest : List Task} {t : Task} → Next f start whole known written items rest t
    → (now : List (List Waiting)) (after : Text) (new : List Task) → Grows known now → Opens f known now t written after rest new
    → Writes f start whole now after (reverse new) × (suc (all_steps f now (reverse new)) ≤ all_steps f known (reverse items))
next-opened {f = f} {start = start} {whole = whole} {known = known} {written = written} {items = items} {rest = rest} {t = t} next now after new g o =
    let w = next.writes in
    let later = reverse rest in
    let h = grown f known now start 0 later g w.stand.1 in
    let stands : TaskStands f known start (length later) t = subst (λ n. TaskStands f known start n t) (omega arith) w.stand.0 in
    let stand : TasksStand f now start 0 (o.more ++ later) = stand-append f now start o.more later (o.stand start (length later) stands) h.stand in
    let text : after ++ texts f now (o.more ++ later) ≡ whole =
    ap (λ x. after ++ x) (texts-append f now o.more later)
    ∙ sym (append_assoc after (texts f now o.more) (texts f now later))
    ∙ ap₂ ◌++◌ o.text h.text
    ∙ append_assoc written (task_text f known t) (texts f known later)
    ∙ w.text in
    let count : all_steps f now (reverse new) ≡ all_steps f now o.more + all_steps f known later = ap (all_steps f now) o.tasks ∙ steps-append f now o.more later ∙ ap (λ n. all_steps f now o.more + n) h.steps in
    let before : all_steps f known (reverse items) ≡ steps_of f known t + all_steps f known later = ap (all_steps f known) next.order in
    let less = o.steps in (
      record {
        stand = subst (TasksStand f now start 0) (sym o.tasks) stand;
        text = ap (λ ts. after ++ texts f now ts) o.tasks ∙ text;
      },
      omega arith,
    )

-- the beginning and the end

pub writes-begin : (f : Meanings) (start : ℕ) (s : Sort) (known : List (List Waiting)) (term : TermId) (c : Closure) (items : List Task) → IsTree (f term.0) → c.row ≡ term → c.environment ≡ env.Empty → items ≡ task.Write s start c ∷ [] → Writes f start (text_as s start (tree_of (f term.0))) known [] (reverse items)
writes-begin f start s known term c items tree row none one =
    let at : c.row.0 ≡ term.0 = ap (λ (r : TermId). r.0) row in
    let whole = row_tree f known term.0 (record { closure = c; depth = 0 }) tree at none in
    subst (λ ts. Writes f start (text_as s start (tree_of (f term.0))) known [] (reverse ts)) (sym one) record {
      stand = ((omega arith, row-stands f known 0 term.0 c tree at none), tt);
      text = append-nil (text_as s start (tree_in f known c)) ∙ ap (text_as s start) whole;
    }

pub writes-end : (f : Meanings) (start : ℕ) (whole : Text) (known : List (List Waiting)) (written : Text) (tasks : List Task) → tasks ≡ [] → Writes f start whole known written tasks → written ≡ whole
writes-end f start whole known written tasks none w =
    let e = subst (Writes f start whole known written) none w in
    sym (append-nil written) ∙ e.text
