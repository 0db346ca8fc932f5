-- Where a face is true with one name moved: made free, or put at an end.
use Rattle.std.proofs.Common.{◌≡◌, ◌≢◌, ℕ, ◌<◌, ◌+◌, ◌⊎◌, ⊎_elim, Bool, false, not, ◌||◌, List, [], ◌∷◌, ◌++◌, length, take, get_or, refl, sym, ◌∙◌, ap}
use Rattle.std.specs.List.{All, Any, Contains}
use Rattle.std.proofs.lemmas.Bool.{false_from_ne_true, both_ways, cases_eq}
use Rattle.std.proofs.lemmas.List.Elements.{All-nil, All-push, All-contains}
use Rattle.std.proofs.lemmas.List.Folds.{list_any-append, list_any_more}
use Rattle.antichains.specs.Antichains.{IsWithin, IsWithout}
use Rattle.antichains.proofs.Members.{All-from_contains}
use Rattle.antichains.proofs.Truth.{same_truth, passes_at, passes_from, list_all-agree}
use Rattle.interval.proofs.Laws.{or_false}
use Rattle.points.specs.Points.{Point, coordinate_at, with_free, with_end}
use Rattle.faces.specs.declared.equations.Equation.{Equation}
use Rattle.faces.specs.Equations.{is_at, opposite, equation_truth}
use Rattle.faces.specs.Faces.{conj_truth, face_truth, IsConsistent, LacksName}
use Rattle.points.proofs.PointLaws.{with_free_same, with_free_other, with_end_same, with_end_other}
use Rattle.faces.proofs.Coordinates.{is_at_its_end, is_at_no_other, same_or_opposite}
use Rattle.faces.proofs.OwnPoints.{consistent_within}

-- what a conjunction becomes
pub record Becomes (move : Point → Point) (name : ℕ) (conj rest : List Equation) : Type 0 where
  pub truth : (x : Point) → conj_truth rest x ≡ conj_truth conj (move x)
  pub lacks : (e : Equation) → Contains rest e → e.name ≢ name
  pub consistent : IsConsistent rest

-- what a face becomes
pub record IsMoved (move : Point → Point) (name : ℕ) (done face : List (List Equation)) : Type 0 where
  pub truth : (x : Point) → face_truth done x ≡ face_truth face (move x)
  pub lacks : LacksName name done
  pub consistent : All IsConsistent done

module _ (move : Point → Point) (name : ℕ) where
  pub moved_none : IsMoved move name [] []
  moved_none = record {
    truth = λ x. refl;
    lacks = All-nil (All (λ e. e.name ≢ name));
    consistent = All-nil IsConsistent;
  }

  pub moved_kept : (done new face : List (List Equation)) (i : ℕ) (conj rest : List Equation) → IsMoved move name done (take i face) → i < length face → conj ≡ get_or face i conj → Becomes move name conj rest → new ≡ done ++ rest ∷ [] → IsMoved move name new (take (i + 1) face)
  moved_kept done new face i conj rest p l e b n = record {
    truth = λ x.
        ap (λ z. face_truth z x) n
        ∙ list_any-append (λ c. conj_truth c x) done (rest ∷ [])
        ∙ ap (λ t. face_truth done x || t) (or_false (conj_truth rest x) ∙ b.truth x ∙ ap (λ c. conj_truth c (move x)) e)
        ∙ ap (λ t. t || conj_truth (get_or face i conj) (move x)) (p.truth x)
        ∙ sym (list_any_more (λ c. conj_truth c (move x)) face i conj l);
    lacks = rw n (All-push (All (λ e. e.name ≢ name)) done rest p.lacks (All-from_contains (λ e. e.name ≢ name) rest b.lacks));
    consistent = rw n (All-push IsConsistent done rest p.consistent b.consistent);
  }

  pub moved_lost : (done face : List (List Equation)) (i : ℕ) (conj : List Equation) → IsMoved move name done (take i face) → i < length face → conj ≡ get_or face i conj → ((x : Point) → conj_truth conj (move x) ≡ false) → IsMoved move name done (take (i + 1) face)
  moved_lost done face i conj p l e never = record {
    truth = λ x.
        p.truth x
        ∙ sym (or_false (face_truth (take i face) (move x)))
        ∙ ap (λ t. face_truth (take i face) (move x) || t) (sym (never x) ∙ ap (λ c. conj_truth c (move x)) e)
        ∙ sym (list_any_more (λ c. conj_truth c (move x)) face i conj l);
    lacks = p.lacks;
    consistent = p.consistent;
  }

pub lacks_within : (name : ℕ) (face done : List (List Equation)) → IsWithin face done → LacksName name done → LacksName name face
lacks_within name face done w h =
    All-from_contains (All (λ e. e.name ≢ name)) face
    (λ conj c. All-contains (All (λ e. e.name ≢ name)) done conj h (w.each conj c))

-- other names are where they were
free_other : (name : ℕ) (x : Point) (e : Equation) → e.name ≢ name → equation_truth e x ≡ equation_truth e (with_free name x)
free_other name x e n = ap (λ c. is_at c e.end) (sym (with_free_other name x e.name n))

end_other : (name : ℕ) (end : Bool) (x : Point) (e : Equation) → e.name ≢ name → equation_truth e (with_end name end x) ≡ equation_truth e x
end_other name end x e n = ap (λ c. is_at c e.end) (with_end_other name end x e.name n)

-- a conjunction without the name stays where the name is free
pub free_kept : (name : ℕ) (conj : List Equation) → IsConsistent conj → (Any (λ e. e.name ≡ name) conj → ⊥) → Becomes (with_free name) name conj conj
free_kept name conj k none = record {
  truth = λ x. list_all-agree (λ e. equation_truth e x) (λ e. equation_truth e (with_free name x)) conj (λ e c. free_other name x e (away e c));
  lacks = away;
  consistent = k;
}
  where
    away : (e : Equation) → Contains conj e → e.name ≢ name
    away e (i, l, at) n = none (i, e, l, at, n)

-- and one with it is not true
pub free_lost : (name : ℕ) (conj : List Equation) → Any (λ e. e.name ≡ name) conj → (x : Point) → conj_truth conj (with_free name x) ≡ false
free_lost name conj (i, e, l, at, n) x =
    false_from_ne_true (conj_truth conj (with_free name x))
    (λ h.
    both_ways (equation_truth e (with_free name x))
    (ap (λ m. is_at (coordinate_at (with_free name x) m) e.end) n ∙ ap (λ c. is_at c e.end) (with_free_same name x))
    (passes_at (λ f. equation_truth f (with_free name x)) conj e h (i, l, at)))

module _ (name : ℕ) (end : Bool) where
  -- the equation that is true of the name at the end
  abbrev put : Equation
  put = record { name = name; end = end }

  put_or_opposite : (e : Equation) → e.name ≡ name → (put ≡ e) ⊎ (e ≡ opposite put)
  put_or_opposite e n = same_or_opposite put e (sym n)

  rest_lacks : (conj rest : List Equation) → IsWithout conj put rest → (Contains conj (opposite put) → ⊥) → (e : Equation) → Contains rest e → e.name ≢ name
  rest_lacks conj rest w none e c n =
      ⊎_elim
      (λ same. w.gone (rw same c))
      (λ against. none (rw against at (w.from.each e c)))
      (put_or_opposite e n)

  -- a conjunction without the opposite equation loses the equation
  pub end_kept : (conj rest : List Equation) → IsConsistent conj → IsWithout conj put rest → (Contains conj (opposite put) → ⊥) → Becomes (with_end name end) name conj rest
  end_kept conj rest k w none = record {
    truth = λ x.
        same_truth (conj_truth rest x) (conj_truth conj (with_end name end x))
        (λ h. passes_from (λ e. equation_truth e (with_end name end x)) conj (λ e c.
        ⊎_elim
        (λ n.
        ⊎_elim
        (λ same. ap (λ (f : Equation). equation_truth f (with_end name end x)) (sym same) ∙ ap (λ z. is_at z end) (with_end_same name end x) ∙ is_at_its_end end)
        (λ against. absurd (none (rw against at c)))
        (put_or_opposite e n))
        (λ n.
        end_other name end x e n
        ∙ passes_at (λ f. equation_truth f x) rest e h (w.kept e c (λ same. n (ap (λ (f : Equation). f.name) same))))
        (cases_eq e.name name)))
        (λ h. passes_from (λ e. equation_truth e x) rest (λ e c.
        sym (end_other name end x e (rest_lacks conj rest w none e c))
        ∙ passes_at (λ f. equation_truth f (with_end name end x)) conj e h (w.from.each e c)));
    lacks = rest_lacks conj rest w none;
    consistent = consistent_within conj rest w.from k;
  }

  -- and one with it is not true
  pub end_lost : (conj : List Equation) → Contains conj (opposite put) → (x : Point) → conj_truth conj (with_end name end x) ≡ false
  end_lost conj c x =
      false_from_ne_true (conj_truth conj (with_end name end x))
      (λ h.
      both_ways (equation_truth (opposite put) (with_end name end x))
      (ap (λ z. is_at z (not end)) (with_end_same name end x) ∙ is_at_no_other end)
      (passes_at (λ f. equation_truth f (with_end name end x)) conj (opposite put) h c))
