-- What is left to write.
use Rattle.std.proofs.Common.{◌≡◌, ℕ, zero, suc, ◌+◌, ◌<◌, ◌≤◌, List, [], ◌∷◌, ◌++◌, length, drop, reverse, get_or, refl, sym, ◌∙◌, ap, ap₂, subst, arith, append_assoc, append-nil}
use Rattle.std.proofs.lemmas.List.{reverse-append}
use Rattle.trees.specs.Operators.{kids_of, binds_of}
use Rattle.trees.specs.Trees.{trees_of}
use Rattle.trees.specs.Things.{Meanings}
use Rattle.trees.proofs.OperatorLaws.{binds_of-most}
use Rattle.rows.specs.Views.{IsTree}
use Rattle.closures.specs.declared.closure.Closure.{Closure}
use Rattle.closures.specs.Environments.{Waiting, listed, deepened, IsWithin}
use Rattle.closures.specs.Closures.{IsClosure, Stands, under, delays}
use Rattle.closures.proofs.HeadLaws.{closure-deeper, kid-stands}
use Rattle.side_conditions.specs.Shapes.{tree_of}
use Rattle.tree_frames.proofs.FrameLaws.{length-kid_trees, drop-kid, drop-past, frame-deeper, weight-some, frame-weight}
use Rattle.tree_texts.specs.declared.words.Sort.{Sort}
use Rattle.tree_texts.specs.declared.words.Form.TheVariants as form
use Rattle.tree_texts.specs.declared.words.Sort.TheVariants as sort
use Rattle.tree_texts.specs.declared.tasks.Task.{Task}
use Rattle.tree_texts.specs.declared.tasks.Task.TheVariants as task
use Rattle.tree_frames.specs.declared.frames.Frame.{Frame}
use Rattle.tree_texts.specs.Show.{Text}
use Rattle.tree_texts.specs.Layouts.{text_as, after_kid, kid_sort, kids_text, below, begun, form_of}
use Rattle.tree_frames.specs.Frames.{tree_in, frame_trees, all_weights, FrameStands, IsFrame}
use Rattle.tree_texts.specs.Tasks.{task_text, texts, steps_of, all_steps, Leaves, Opens, LeavesParts}
use Rattle.tree_texts.proofs.TextLaws.{plain-text, other-text, unlike-text}

-- kids

pub below-is : (b n : ℕ) → below b n ≡ n + b
below-is zero n = omega arith
below-is (suc b) n = let h = below-is b n in omega arith

reverse-two : (old : List Task) (a b : Task) → reverse ((old ++ a ∷ []) ++ b ∷ []) ≡ b ∷ a ∷ reverse old
reverse-two old a b = reverse-append (old ++ a ∷ []) (b ∷ []) ∙ ap (λ ts. b ∷ ts) (reverse-append old (a ∷ []))

pub leaves-none : (f : Meanings) (known : List (List Waiting)) (m : ℕ) (r : Frame) (old : List Task) → FrameStands f known m r → kids_of r.op ≤ r.at → Leaves f known r old old
leaves-none f known m r old s past =
    let count = length-kid_trees f (listed known r.environment) r.op 0 r.kids.now in
    let none : drop r.at (frame_trees f known r) ≡ [] = drop-past r.at (frame_trees f known r) (omega (arith, s.count)) in
    record {
      more = [];
      tasks = refl;
      text = ap (kids_text r.level r.op r.at) (sym none);
      stand = λ start n le stands. tt;
      steps = rw none (omega arith);
    }

pub leaves-kid : (f : Meanings) (known : List (List Waiting)) (m : ℕ) (r : Frame) (c : Closure) (s : Sort) (level : ℕ) (old mid new : List Task)
    → FrameStands f known m r → r.at < kids_of r.op → c.row.0 ≡ get_or r.kids.now r.at 0
    → listed known c.environment ≡ deepened (binds_of r.op r.at) (listed known r.environment) → IsWithin known c.environment
    → s ≡ kid_sort r.op r.at → level ≡ r.level + binds_of r.op r.at
    → mid ≡ old ++ task.Rest r ∷ [] → new ≡ mid ++ task.Write s level c ∷ [] → Leaves f known r old new
leaves-kid f known m r c s level old mid new stands place row list within sort_is level_is first second =
    let ws = listed known r.environment in
    let count = stands.count in
    let b = binds_of-most r.op r.at in
    let kids = drop-kid f ws r.op 0 r.kids.now r.at r.at (omega arith) (omega arith) in
    let meant : tree_in f known c ≡ tree_of (under (f (get_or r.kids.now r.at 0)) (delays f (deepened (binds_of r.op r.at) ws))) = ap₂ (λ j vs. tree_of (under (f j) (delays f vs))) row list in
    let split : drop r.at (frame_trees f known r) ≡ tree_in f known c ∷ drop (suc r.at) (frame_trees f known r) = kids ∙ ap (λ t. t ∷ drop (suc r.at) (frame_trees f known r)) (sym meant) in
    let here : level ≡ below (binds_of r.op r.at) r.level = level_is ∙ sym (below-is (binds_of r.op r.at) r.level) in
    let tail = after_kid r.op r.at ++ kids_text r.level r.op (suc r.at) (drop (suc r.at) (frame_trees f known r)) in
    record {
      more = task.Write s level c ∷ task.Rest r ∷ [];
      tasks = ap reverse (second ∙ ap (λ ts. ts ++ task.Write s level c ∷ []) first) ∙ reverse-two old (task.Rest r) (task.Write s level c);
      text = ap (λ x. text_as s level (tree_in f known c) ++ x) (append-nil tail)
          ∙ ap₂ (λ x l. text_as x l (tree_in f known c) ++ tail) sort_is here
          ∙ ap (kids_text r.level r.op r.at) (sym split);
      stand = λ start n le env. (
        (omega arith, closure-deeper f known (n + binds_of r.op r.at) (n + 1) c (omega arith) (kid-stands f known n (binds_of r.op r.at) c.row.0 r.environment c (subst (λ j. IsTree (f j)) (sym row) (stands.rows r.at 0 (omega arith))) env refl list within)),
        ((omega arith, frame-deeper f known n (n + 0) r (omega arith) (record { count = count; rows = stands.rows; environment_stands = env }), place), tt),
      );
      steps = rw split (omega arith);
    }

-- an operator that was opened

pub opens-nothing : (f : Meanings) (known now : List (List Waiting)) (s : Sort) (level : ℕ) (c : Closure) (before after : Text) (old : List Task)
    → after ≡ before ++ text_as s level (tree_in f known c) → Opens f known now (task.Write s level c) before after old old
opens-nothing f known now s level c before after old text = record {
  more = [];
  tasks = refl;
  text = append-nil after ∙ text;
  stand = λ start n stands. tt;
  steps = weight-some (tree_in f known c);
}

pub opens-plain : (f : Meanings) (known now : List (List Waiting)) (s : Sort) (c : Closure) (r : Frame) (before after : Text) (old new : List Task)
    → IsFrame f now (tree_in f known c) r → r.at ≡ 0 → form_of r.op ≡ form.Plain s
    → ((rest : Text) → after ++ rest ≡ before ++ begun r.op r.level rest)
    → ((n : ℕ) → IsClosure f known n c → Stands f now n r.environment)
    → Leaves f now r old new → Opens f known now (task.Write s r.level c) before after old new
opens-plain f known now s c r before after old new is start is_plain begins env leaves =
    let ts = frame_trees f now r in
    let left : texts f now leaves.more ≡ kids_text r.level r.op 0 ts = leaves.text ∙ ap (λ at. kids_text r.level r.op at (drop at ts)) start in
    let count : length ts ≡ kids_of r.op = length-kid_trees f (listed now r.environment) r.op 0 r.kids.now ∙ is.count in
    let whole : text_as s r.level (tree_in f known c) ≡ begun r.op r.level (kids_text r.level r.op 0 ts) = ap (text_as s r.level) is.whole ∙ plain-text r.op s r.level ts is_plain count in
    let w = frame-weight f now (tree_in f known c) r is in
    let few : all_steps f now leaves.more ≤ all_weights ts = subst (λ at. all_steps f now leaves.more ≤ all_weights (drop at ts)) start leaves.steps in
    record {
      more = leaves.more;
      tasks = leaves.tasks;
      text = begins (texts f now leaves.more) ∙ ap (λ x. before ++ begun r.op r.level x) left ∙ ap (λ x. before ++ x) (sym whole);
      stand = λ begin n stands. leaves.stand begin n stands.0 (env n stands.1);
      steps = omega (arith, w, few);
    }

pub opens-rest : (f : Meanings) (known : List (List Waiting)) (r : Frame) (at : ℕ) (before after : Text) (old new : List Task)
    → at ≡ r.at + 1 → after ≡ before ++ after_kid r.op r.at
    → Leaves f known (record { op = r.op; at = at; kids = r.kids; environment = r.environment; level = r.level }) old new
    → Opens f known known (task.Rest r) before after old new
opens-rest f known r at before after old new next wrote leaves =
    let ts = frame_trees f known r in
    let place : at ≡ suc r.at = omega arith in
    let left : texts f known leaves.more ≡ kids_text r.level r.op (suc r.at) (drop (suc r.at) ts) = leaves.text ∙ ap (λ a. kids_text r.level r.op a (drop a ts)) place in
    let few : all_steps f known leaves.more ≤ all_weights (drop (suc r.at) ts) = subst (λ a. all_steps f known leaves.more ≤ all_weights (drop a ts)) place leaves.steps in
    record {
      more = leaves.more;
      tasks = leaves.tasks;
      text = ap₂ ◌++◌ wrote left ∙ append_assoc before (after_kid r.op r.at) (kids_text r.level r.op (suc r.at) (drop (suc r.at) ts));
      stand = λ begin n stands. leaves.stand begin n stands.0 stands.1.environment_stands;
      steps = omega (arith, few);
    }

pub opens-other : (f : Meanings) (known now : List (List Waiting)) (s : Sort) (level : ℕ) (c : Closure) (r : Frame) (text : Text) (old : List Task)
    → IsFrame f now (tree_in f known c) r → (form_of r.op ≡ form.Plain s → ⊥) → (form_of r.op ≡ form.WithSystem → ⊥)
    → Opens f known now (task.Write s level c) text text old old
opens-other f known now s level c r text old is unlike system =
    let none : text_as s level (tree_in f known c) ≡ [] = ap (text_as s level) is.whole ∙ other-text r.op s level (trees_of (frame_trees f now r)) unlike system in
    opens-nothing f known now s level c text text old (sym (append-nil text) ∙ ap (λ x. text ++ x) (sym none))

-- kids by their places

pub opens-unlike : (f : Meanings) (known now : List (List Waiting)) (s : Sort) (level : ℕ) (c : Closure) (r : Frame) (text : Text) (old : List Task)
    → IsFrame f now (tree_in f known c) r → form_of r.op ≡ form.WithSystem → (s ≡ sort.Term → ⊥)
    → Opens f known now (task.Write s level c) text text old old
opens-unlike f known now s level c r text old is system unlike =
    let none : text_as s level (tree_in f known c) ≡ [] = ap (text_as s level) is.whole ∙ unlike-text r.op s level (trees_of (frame_trees f now r)) system unlike in
    opens-nothing f known now s level c text text old (sym (append-nil text) ∙ ap (λ x. text ++ x) (sym none))

pub opens-parts : (f : Meanings) (known now : List (List Waiting)) (s : Sort) (c : Closure) (r : Frame) (before after : Text) (old new : List Task)
    → IsFrame f now (tree_in f known c) r → s ≡ sort.Term
    → ((rest : Text) → after ++ rest ≡ before ++ begun r.op r.level rest)
    → ((n : ℕ) → IsClosure f known n c → Stands f now n r.environment)
    → LeavesParts f now r old new → Opens f known now (task.Write s r.level c) before after old new
opens-parts f known now s c r before after old new is term begins env leaves =
    let w = frame-weight f now (tree_in f known c) r is in
    let few = leaves.steps in
    record {
      more = leaves.more;
      tasks = leaves.tasks;
      text = begins (texts f now leaves.more) ∙ ap (λ x. before ++ x) (leaves.text ∙ sym (ap (text_as sort.Term r.level) is.whole) ∙ ap (λ x. text_as x r.level (tree_in f known c)) (sym term));
      stand = λ begin n stands. leaves.stand begin n stands.0 (env n stands.1);
      steps = omega (arith, w, few);
    }

-- words alone
pub opens-words : (f : Meanings) (known : List (List Waiting)) (t : Task) (before after : Text) (old : List Task) → after ≡ before ++ task_text f known t → 0 < steps_of f known t → Opens f known known t before after old old
opens-words f known t before after old wrote some = record {
  more = [];
  tasks = refl;
  text = append-nil after ∙ wrote;
  stand = λ start n stands. tt;
  steps = some;
}
