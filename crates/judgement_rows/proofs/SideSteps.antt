-- Sides, one after another, and what heads are applied to.
use Rattle.std.proofs.Common.{◌≡◌, ℕ, List, [], ◌∷◌, ◌++◌, map, refl, sym, ◌∙◌, subst}
use Rattle.trees.specs.Trees.{Tree}
use Rattle.trees.specs.Things.{Kept}
use Rattle.trees.proofs.Meanings.{kept-same}
use Rattle.translation.specs.Terms.{app, papp}
use Rattle.translation.specs.Systems.{On, on}
use Rattle.translation.specs.Scopes.{Scope}
use Rattle.translation.specs.Translated.{◌>>=◌}
use Rattle.translation.specs.Forms.{Means, Side, Element, all, side, system, apply_all, Argument, At}
use Rattle.codes.specs.declared.formula.Equation.{Equation}
use Rattle.codes.specs.Codes.{side_of}
use Rattle.codes.proofs.Logs.{map_append, then_assoc, then_same}
use Rattle.form_rows.specs.Meant.{Is, Are}
use Rattle.form_rows.specs.Formulas.{face_tree}
use Rattle.form_rows.proofs.RowLaws.{kept_then, is_kept, are_kept, are_none, are_push}
use Rattle.judgement_rows.specs.declared.places.Place.{Place}
use Rattle.judgement_rows.specs.declared.places.Faced.{Faced}
use Rattle.judgement_rows.specs.Places.{HoldIn}
use Rattle.judgement_rows.specs.Steps.{State, Spells}
use Rattle.judgement_rows.proofs.Moving.{moves_as, moves_done, Makes}
use Rattle.judgement_rows.proofs.FormSteps.{spells_same, spells_map, spells_two, spells_in_face}
use Rattle.judgement_rows.proofs.SideLaws.{side_is, all_push}

-- another relation, later
pub spells_as : {A : Type 0} {R Q : State → A → Type 0} {m : Means ℕ A} {s t u : State} {p : Place} → Spells s t p R m → Makes t u → ((a : A) → R t a → Q u a) → Spells s u p Q m
spells_as {A} {R} {Q} {m} {s} {t} {u} first more h = record {
  kept = kept_then first.kept more.kept;
  bodies = more.bodies ∙ first.bodies;
  moves = λ H f. moves_as s t u R Q (m H) more.kept more.claims h (first.moves H f);
}

-- codes in order

pub codes_none : {A : Type 0} (s : State) (p : Place) (R : State → List A → Type 0) → R s [] → Spells s s p R (all [])
codes_none s p R h = record { kept = kept-same s.means; bodies = refl; moves = λ H f. moves_done s s R [] refl h }

pub codes_more : {A : Type 0} {R P : State → List A → Type 0} {Q : State → A → Type 0} {f : Means ℕ A} {s t u : State} {p : Place} (fs : List (Means ℕ A))
    → Spells s t p R (all fs) → Spells t u p Q f → ((as' : List A) (a : A) → R t as' → Q u a → P u (as' ++ a ∷ [])) → Spells s u p P (all (fs ++ f ∷ []))
codes_more {f = f} {u = u} fs first second push =
    spells_same (all_push fs f) (spells_two (λ xs x. xs ++ x ∷ []) first second (record { kept = kept-same u.means; bodies = refl; claims = refl }) push)

-- sides: the rows of their faces, and what is known of their values
pub record IsSides {A : Type 0} (rows : List ℕ) (V : State → List A → Type 0) (s : State) (ss : List (On A)) : Type 0 where
  pub faces : Are s.means rows (map (λ (x : On A). x.face) ss)
  pub values : V s (map (λ (x : On A). x.value) ss)

-- the rows of the types and of the equivalences
pub record Pairs (rows others : List ℕ) (s : State) (ps : List (Tree × Tree)) : Type 0 where
  pub types : Are s.means rows (map (λ (p : Tree × Tree). p.0) ps)
  pub equivalences : Are s.means others (map (λ (p : Tree × Tree). p.1) ps)

pub sides_none : {A : Type 0} (s : State) (p : Place) (V : State → List A → Type 0) → V s [] → Spells s s p (IsSides [] V) (system [])
sides_none s p V h = codes_none s p (IsSides [] V) (record { faces = are_none s.means; values = h })

pub sides_more : {A : Type 0} {V W : State → List A → Type 0} {Q : State → A → Type 0} {faces : List ℕ} {value : Means ℕ A} {s t x y : State} {p : Place} {q : Faced} (xs : List (Side ℕ A)) (es : List Equation)
    → Spells s t p (IsSides faces V) (system xs) → Makes t x → HoldIn t.means x.means p es q → Spells x y q.place Q value
    → ((as' : List A) (a : A) → V t as' → Q y a → W y (as' ++ a ∷ [])) → Spells s y p (IsSides (faces ++ q.face ∷ []) W) (system (xs ++ side_of es value ∷ []))
sides_more {A} {V} {W} {Q} {faces} {value} {s} {t} {x} {y} {p} {q} xs es first more hold second push =
    let T = face_tree es in
    let all_kept : Kept t.means y.means = kept_then more.kept second.kept in
    let last : Spells t y p (λ v (o : On A). (o.face ≡ T) × Q v o.value) (side (side_of es value)) =
    spells_same (λ H. sym (side_is es value H))
    (spells_map (on T) (spells_in_face more hold second) (record { kept = kept-same y.means; bodies = refl; claims = refl }) (λ a r. (refl, r))) in
    subst (λ ms. Spells s y p (IsSides (faces ++ q.face ∷ []) W) (all ms)) (sym (map_append side xs (side_of es value ∷ [])))
    (codes_more (map side xs) first last (λ ss o r l. record {
      faces = subst (Are y.means (faces ++ q.face ∷ [])) (sym (map_append (λ (z : On A). z.face) ss (o ∷ [])))
          (are_push (are_kept all_kept r.faces) (subst (Is y.means q.face) (sym l.0) (is_kept second.kept hold.face)));
      values = subst (W y) (sym (map_append (λ (z : On A). z.value) ss (o ∷ []))) (push (map (λ (z : On A). z.value) ss) o.value r.values l.1);
    }))

-- what a head is applied to

pub applied_push : (es : List (Element ℕ)) (e : Element ℕ) (t : Tree) (G : Scope ℕ) → (apply_all t es G >>= λ f. apply_all f (e ∷ []) G) ≡ apply_all t (es ++ e ∷ []) G
applied_push [] e t G = refl
applied_push (Argument a ∷ es) e t G =
    then_assoc (a G) (λ x. apply_all (app t x) es G) (λ f. apply_all f (e ∷ []) G)
    ∙ then_same (a G) (λ x. apply_all (app t x) es G >>= λ f. apply_all f (e ∷ []) G) (λ x. apply_all (app t x) (es ++ e ∷ []) G) (applied_push es e (app t (a G).value) G)
applied_push (At r ∷ es) e t G =
    then_assoc (r G) (λ x. apply_all (papp t x) es G) (λ f. apply_all f (e ∷ []) G)
    ∙ then_same (r G) (λ x. apply_all (papp t x) es G >>= λ f. apply_all f (e ∷ []) G) (λ x. apply_all (papp t x) (es ++ e ∷ []) G) (applied_push es e (papp t (r G).value) G)
