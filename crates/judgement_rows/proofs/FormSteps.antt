-- Forms of several parts, and rows that are made of those of the parts.
use Rattle.std.proofs.Common.{◌≡◌, ℕ, List, ◌∷◌, ◌++◌, refl, ap, ◌∙◌, subst}
use Rattle.trees.specs.Trees.{Tree}
use Rattle.trees.specs.Things.{Meanings, Kept}
use Rattle.rows.specs.Views.{IsTree, IsContext}
use Rattle.translation.specs.Scopes.{Scope, context_of, Variable, Interval, Face}
use Rattle.translation.specs.Translated.{Translated, done, ◌>>=◌}
use Rattle.translation.specs.Forms.{Means}
use Rattle.codes.specs.declared.formula.Equation.{Equation}
use Rattle.form_rows.specs.Meant.{Is}
use Rattle.form_rows.specs.Formulas.{face_tree}
use Rattle.form_rows.proofs.RowLaws.{kept_then, tree_of_is, is_of}
use Rattle.judgement_rows.specs.declared.places.Place.{Place}
use Rattle.judgement_rows.specs.declared.places.Faced.{Faced}
use Rattle.judgement_rows.specs.Places.{OpenedIn, NamedIn, HoldIn}
use Rattle.judgement_rows.specs.Steps.{State, Fits, FitsSome, Moves, Spells, Row}
use Rattle.judgement_rows.proofs.Moving.{moves_done, moves_then, fits_kept, fits_name, fits_variable, fits_face, given, Makes, spells_then}

-- the row of a code means a tree
pub spelt_tree : {m : Means ℕ Tree} {s t : State} {p : Place} {r : ℕ} → FitsSome s p → Spells s t p (Row r) m → IsTree (t.means r)
spelt_tree {t = t} {r = r} h a = tree_of_is t.means r (given h a).1

pub place_context : {s : State} {p : Place} → FitsSome s p → IsContext (s.means p.context)
place_context h = (context_of h.0, h.1.context)

pub makes_only : (f g : Meanings) (s : State) → f ≡ s.means → Kept f g → Makes s (record s { means = g })
makes_only f g s e k = record { kept = subst (λ x. Kept x g) e k; bodies = refl; claims = refl }

-- a form of one part to four

pub spells_map : {A B : Type 0} {R : State → A → Type 0} {Q : State → B → Type 0} {m : Means ℕ A} {s t u : State} {p : Place} (F : A → B)
    → Spells s t p R m → Makes t u → ((a : A) → R t a → Q u (F a)) → Spells s u p Q (λ H. m H >>= λ a. done (F a))
spells_map {A} {B} {R} {Q} {m} {s} {t} {u} {p} F first more fin = record {
  kept = kept_then first.kept more.kept;
  bodies = more.bodies ∙ first.bodies;
  moves = λ H f. moves_then s t u R Q (m H) (λ a. done (F a)) more.kept (first.moves H f) (λ a r. moves_done t u Q (F a) more.claims (fin a r));
}

pub spells_two : {A B C : Type 0} {R : State → A → Type 0} {Q : State → B → Type 0} {P : State → C → Type 0} {f : Means ℕ A} {g : Means ℕ B} {s t u v : State} {p : Place} (F : A → B → C)
    → Spells s t p R f → Spells t u p Q g → Makes u v → ((a : A) (b : B) → R t a → Q u b → P v (F a b))
    → Spells s v p P (λ H. f H >>= λ a. g H >>= λ b. done (F a b))
spells_two F first second more fin =
    spells_then first (λ a r. spells_map (F a) second more (λ b q. fin a b r q)) (kept_then second.kept more.kept) (more.bodies ∙ second.bodies)

pub spells_three : {A B C D : Type 0} {R : State → A → Type 0} {Q : State → B → Type 0} {O : State → C → Type 0} {P : State → D → Type 0} {f : Means ℕ A} {g : Means ℕ B} {h : Means ℕ C} {s t u v w : State} {p : Place} (F : A → B → C → D)
    → Spells s t p R f → Spells t u p Q g → Spells u v p O h → Makes v w → ((a : A) (b : B) (c : C) → R t a → Q u b → O v c → P w (F a b c))
    → Spells s w p P (λ H. f H >>= λ a. g H >>= λ b. h H >>= λ c. done (F a b c))
spells_three F first second third more fin =
    spells_then first (λ a r. spells_two (F a) second third more (λ b c q o. fin a b c r q o)) (kept_then second.kept (kept_then third.kept more.kept)) (more.bodies ∙ third.bodies ∙ second.bodies)

pub spells_four : {A B C D E : Type 0} {R : State → A → Type 0} {Q : State → B → Type 0} {O : State → C → Type 0} {N : State → D → Type 0} {P : State → E → Type 0} {f : Means ℕ A} {g : Means ℕ B} {h : Means ℕ C} {i : Means ℕ D} {s t u v w x : State} {p : Place} (F : A → B → C → D → E)
    → Spells s t p R f → Spells t u p Q g → Spells u v p O h → Spells v w p N i → Makes w x → ((a : A) (b : B) (c : C) (d : D) → R t a → Q u b → O v c → N w d → P x (F a b c d))
    → Spells s x p P (λ H. f H >>= λ a. g H >>= λ b. h H >>= λ c. i H >>= λ d. done (F a b c d))
spells_four F first second third fourth more fin =
    spells_then first (λ a r. spells_three (F a) second third fourth more (λ b c d q o n. fin a b c d r q o n))
    (kept_then second.kept (kept_then third.kept (kept_then fourth.kept more.kept))) (more.bodies ∙ fourth.bodies ∙ third.bodies ∙ second.bodies)

-- what is the same in every scope
pub spells_same : {A : Type 0} {Q : State → A → Type 0} {s t : State} {p : Place} {m n : Means ℕ A} → ((H : Scope ℕ) → m H ≡ n H) → Spells s t p Q m → Spells s t p Q n
spells_same {A} {Q} {s} {t} e a = record {
  kept = a.kept;
  bodies = a.bodies;
  moves = λ H f. subst (λ x. Moves s t Q x) (e H) (a.moves H f);
}

-- a value that is spelt without parts
pub spells_leaf : {A : Type 0} {Q : State → A → Type 0} {s t : State} {p : Place} (value : Scope ℕ → A) → Makes s t → ((H : Scope ℕ) → Fits s p H → Q t (value H)) → Spells s t p Q (λ H. done (value H))
spells_leaf {A} {Q} {s} {t} value more h = record {
  kept = more.kept;
  bodies = more.bodies;
  moves = λ H f. moves_done s t Q (value H) more.claims (h H f);
}

-- what stands under a name, a variable or a face

pub moves_later : {B : Type 0} (x y z : State) (P : State → B → Type 0) (n : Translated ℕ B) → Makes x y → Moves y z P n → Moves x z P n
moves_later x y z P n g h = record {
  value = h.value;
  states = record { more = h.states.more; claims = h.states.claims ∙ ap (λ cs. cs ++ h.states.more) g.claims; say = h.states.say };
}

pub some_name : {s t : State} {p q : Place} → Makes s t → NamedIn s.means t.means p q → FitsSome s p → FitsSome t q
some_name {s} {t} {p} {q} more named h = (Interval 0 ∷ h.0, fits_name s t p q h.0 more.kept more.bodies named h.1)

pub some_variable : {s t : State} {p q : Place} {ty : ℕ} → Makes s t → OpenedIn s.means t.means p ty q → IsTree (s.means ty) → FitsSome s p → FitsSome t q
some_variable {s} {t} {p} {q} {ty} more opened a h = (Variable 0 a.0 ∷ h.0, fits_variable s t p q ty h.0 a.0 more.kept more.bodies opened (is_of s.means ty a) h.1)

pub some_face : {s t : State} {p : Place} {es : List Equation} {q : Faced} → Makes s t → HoldIn s.means t.means p es q → FitsSome s p → FitsSome t q.place
some_face {s} {t} {p} {es} {q} more hold h = (Face (face_tree es) ∷ h.0, fits_face s t p es q h.0 more.kept more.bodies hold h.1)

pub spells_in_name : {A : Type 0} {Q : State → A → Type 0} {m : Means ℕ A} {s t u : State} {p q : Place} → Makes s t → NamedIn s.means t.means p q → Spells t u q Q m → Spells s u p Q (λ H. m (Interval 0 ∷ H))
spells_in_name {A} {Q} {m} {s} {t} {u} {p} {q} more named a = record {
  kept = kept_then more.kept a.kept;
  bodies = a.bodies ∙ more.bodies;
  moves = λ H f. moves_later s t u Q (m (Interval 0 ∷ H)) more (a.moves (Interval 0 ∷ H) (fits_name s t p q H more.kept more.bodies named f));
}

pub spells_in_variable : {A : Type 0} {Q : State → A → Type 0} {m : Means ℕ A} {s t u : State} {p q : Place} {ty : ℕ} {T : Tree}
    → Makes s t → OpenedIn s.means t.means p ty q → Is s.means ty T → Spells t u q Q m → Spells s u p Q (λ H. m (Variable 0 T ∷ H))
spells_in_variable {A} {Q} {m} {s} {t} {u} {p} {q} {ty} {T} more opened is a = record {
  kept = kept_then more.kept a.kept;
  bodies = a.bodies ∙ more.bodies;
  moves = λ H f. moves_later s t u Q (m (Variable 0 T ∷ H)) more (a.moves (Variable 0 T ∷ H) (fits_variable s t p q ty H T more.kept more.bodies opened is f));
}

pub spells_in_face : {A : Type 0} {Q : State → A → Type 0} {m : Means ℕ A} {s t u : State} {p : Place} {es : List Equation} {q : Faced}
    → Makes s t → HoldIn s.means t.means p es q → Spells t u q.place Q m → Spells s u p Q (λ H. m (Face (face_tree es) ∷ H))
spells_in_face {A} {Q} {m} {s} {t} {u} {p} {es} {q} more hold a =
    let T = face_tree es in
    record {
      kept = kept_then more.kept a.kept;
      bodies = a.bodies ∙ more.bodies;
      moves = λ H f. moves_later s t u Q (m (Face T ∷ H)) more (a.moves (Face T ∷ H) (fits_face s t p es q H more.kept more.bodies hold f));
    }

-- rows that were made before a part was spelt
pub spells_later : {A : Type 0} {Q : State → A → Type 0} {m : Means ℕ A} {s t u : State} {p : Place} → Makes s t → Spells t u p Q m → Spells s u p Q m
spells_later {A} {Q} {m} {s} {t} {u} {p} more a = record {
  kept = kept_then more.kept a.kept;
  bodies = a.bodies ∙ more.bodies;
  moves = λ H f. moves_later s t u Q (m H) more (a.moves H (fits_kept s t p H more.kept more.bodies f));
}
