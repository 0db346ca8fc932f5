-- What a form answers, where a code means the same.
use Rattle.std.proofs.Common.{◌≡◌, ◌+◌, ◌<◌, ℕ, List, [], ◌∷◌, ◌++◌, take, length, get_or, Some, Result, Ok, Err, IfOk, OnOk, refl, sym, ap, ◌∙◌, subst}
use Rattle.std.specs.Prelude.{option_and_then}
use Rattle.trees.specs.declared.op.Op.{Op}
use Rattle.trees.specs.Operators.{kids_of}
use Rattle.trees.specs.Trees.{Tree, Var, Make, trees_of}
use Rattle.trees.specs.Things.{Meanings, ATree, Kept, meanings, made}
use Rattle.trees.proofs.Meanings.{kept-same}
use Rattle.translation.specs.Scopes.{Scope}
use Rattle.translation.specs.Translated.{done}
use Rattle.translation.specs.Forms.{Means}
use Rattle.codes.specs.Codes.{body_of}
use Rattle.form_rows.specs.Meant.{Is}
use Rattle.form_rows.proofs.RowLaws.{are_none, is_made, take_next}
use Rattle.judgement_rows.specs.declared.places.Place.{Place}
use Rattle.judgement_rows.specs.Steps.{State, Fits, FitsSome, Spells, Row}
use Rattle.judgement_rows.proofs.Moving.{Makes, some_kept}
use Rattle.judgement_rows.proofs.FormSteps.{spells_leaf}
use Rattle.judgement_rows.proofs.Arms.{with_rows, more_rows}

pub spells_by : {A : Type 0} {Q : State → A → Type 0} {s t : State} {p : Place} {m n : Means ℕ A} → m ≡ n → Spells s t p Q m → Spells s t p Q n
spells_by {A} {Q} {s} {t} {p} e h = subst (λ k. Spells s t p Q k) e h

pub answer_is : {E : Type 0} (s t : State) (p : Place) {m n : Means ℕ Tree} (r : Result ℕ E) → m ≡ n → IfOk r (λ a. Spells s t p (Row a) m) → IfOk r (λ a. Spells s t p (Row a) n)
answer_is s t p (Ok a) e h = spells_by e h
answer_is s t p (Err x) e h = tt

-- an answer says more
pub if_ok : {A E : Type 0} {P Q : A → Type 0} (r : Result A E) → ((a : A) → P a → Q a) → IfOk r P → IfOk r Q
if_ok (Ok a) more h = more a h
if_ok (Err x) more h = tt

pub on_ok : {A E : Type 0} {P Q : Type 0} (r : Result A E) → (P → Q) → OnOk r P → OnOk r Q
on_ok (Ok a) more h = more h
on_ok (Err x) more h = tt

-- a state is made of itself by no row
pub makes_same : (s : State) → Makes s s
makes_same s = record { kept = kept-same s.means; bodies = refl; claims = refl }

-- what fits goes on to, where rows are made
pub fits_after : {s : State} {g : Meanings} {p : Place} → Kept s.means g → FitsSome s p → FitsSome (with_rows s g) p
fits_after {s} {g} {p} kept h = some_kept s (with_rows s g) p kept refl h

pub one_more : {X : Type 0} (xs : List X) (i : ℕ) (x : X) → i < length xs → x ≡ get_or xs i x → take (i + 1) xs ≡ take i xs ++ x ∷ []
one_more xs i x h e = take_next xs i x h ∙ ap (λ y. take i xs ++ y ∷ []) (sym e)

module _ {E : Type 0} (s : State) {g : Meanings} (p : Place) {n : Means ℕ Tree} where
  pub var_answer : (r : Result ℕ E) (k : ℕ) → Kept s.means g → (λ H. done (Var k)) ≡ n → IfOk r (λ a. g a ≡ Some (ATree (Var k))) → IfOk r (λ a. Spells s (with_rows s g) p (Row a) n)
  var_answer (Ok a) k kept e h = spells_by e (spells_leaf (λ H. Var k) (more_rows kept) (λ H f. record { is = h }))
  var_answer (Err x) k kept e h = tt

  pub made_answer : (r : Result ℕ E) (o : Op) → kids_of o ≡ 0 → Kept s.means g → (λ H. done (Make o (trees_of []))) ≡ n → IfOk r (λ a. g a ≡ option_and_then (made o) (meanings s.means []))
      → IfOk r (λ a. Spells s (with_rows s g) p (Row a) n)
  made_answer (Ok a) o none kept e h = spells_by e (spells_leaf (λ H. Make o (trees_of [])) (more_rows kept) (λ H f. is_made o (sym none) (are_none s.means) h))
  made_answer (Err x) o none kept e h = tt

  pub body_answer : (r : Result ℕ E) (k : ℕ) → Kept s.means g → (λ H. done (body_of H k)) ≡ n → IfOk r (λ a. (H : Scope ℕ) → Fits s p H → Is g a (body_of H k)) → IfOk r (λ a. Spells s (with_rows s g) p (Row a) n)
  body_answer (Ok a) k kept e h = spells_by e (spells_leaf (λ H. body_of H k) (more_rows kept) h)
  body_answer (Err x) k kept e h = tt
