-- How the meet of two faces is made, merge by merge.
use Rattle.std.proofs.Common.{◌≡◌, ℕ, ◌<◌, ◌≤◌, ◌+◌, ◌⊎◌, inl, inr, ⊎_elim, true, false, ◌&&◌, List, [], ◌∷◌, ◌++◌, length, take, get_or, sym, ◌∙◌, ap, subst, Option, Some, None}
use Rattle.std.specs.List.{All, Any, Contains}
use Rattle.std.specs.Option.{is_some, MatchOption}
use Rattle.std.proofs.lemmas.Bool.{and_parts, and_from, or_cases, or_left, both_ways, false≢true}
use Rattle.std.proofs.lemmas.List.{take_all}
use Rattle.std.proofs.lemmas.List.Elements.{All-nil, All-push, Contains-append_left, Contains-push, Contains-push_cases}
use Rattle.std.proofs.lemmas.List.Folds.{list_any_more}
use Rattle.antichains.specs.Antichains.{IsWithin, IsUnion}
use Rattle.antichains.proofs.Members.{Contains-none}
use Rattle.antichains.proofs.Truth.{list_all-union, passes_at, same_truth}
use Rattle.points.specs.Points.{Point}
use Rattle.faces.specs.declared.equations.Equation.{Equation}
use Rattle.faces.specs.Equations.{opposite, equation_truth}
use Rattle.faces.specs.Faces.{conj_truth, face_truth, IsConsistent}
use Rattle.faces.specs.Meets.{ImpliesTogether, CoversMeet, IsOutside, IsMergeOutside, IsMeetOutside}
use Rattle.faces.proofs.Coordinates.{same_or_opposite, never_both}
use Rattle.faces.proofs.OwnPoints.{own_point, true_at_own_point, within_own_point, true_within, face_from, face_has}

pub union_truth : (c d both : List Equation) → IsUnion c d both → (x : Point) → conj_truth both x ≡ (conj_truth c x && conj_truth d x)
union_truth c d both u x = list_all-union (λ e. equation_truth e x) c d both u

-- conjunctions that contradict each other are true together at no point
contradict_everywhere : (c d : List Equation) → Any (λ e. Contains d (opposite e)) c → (x : Point) → conj_truth c x ≡ true → conj_truth d x ≡ true → ⊥
contradict_everywhere c d (k, e, l, at, against) x h m =
    never_both e x
    (passes_at (λ f. equation_truth f x) c e h (k, l, at))
    (passes_at (λ f. equation_truth f x) d (opposite e) m against)

pub implied_by_contradiction : (c d : List Equation) (face : List (List Equation)) → Any (λ e. Contains d (opposite e)) c → ImpliesTogether c d face
implied_by_contradiction c d face against x h m = absurd (contradict_everywhere c d against x h m)

pub implied_by_merge : (c d both : List Equation) (face : List (List Equation)) → IsUnion c d both → Any (λ part. IsWithin part both) face → ImpliesTogether c d face
implied_by_merge c d both face u (k, part, l, at, w) x h m =
    face_from face part x (k, l, at)
    (true_within both part x w (union_truth c d both u x ∙ and_from (conj_truth c x) (conj_truth d x) h m))

-- of two equations of one name in conjunctions that do not contradict each other, the second is the first
across : (c d : List Equation) → (Any (λ e. Contains d (opposite e)) c → ⊥) → (e f : Equation) → Contains c e → Contains d f → e.name ≡ f.name → e ≡ f
across c d none e f (k, l, at) in_d n =
    ⊎_elim
    (λ same. same)
    (λ against. let InD : Equation → Type 0 = λ z. Contains d z in absurd (none (k, e, l, at, subst InD against in_d)))
    (same_or_opposite e f n)

pub consistent_union : (c d both : List Equation) → IsConsistent c → IsConsistent d → IsUnion c d both → (Any (λ e. Contains d (opposite e)) c → ⊥) → IsConsistent both
consistent_union c d both k l u none = record {
  one_end = λ e f in_e in_f n.
      ⊎_elim
      (λ a.
      ⊎_elim
      (λ b. k.one_end e f a b n)
      (λ b. across c d none e f a b n)
      (u.from f in_f))
      (λ a.
      ⊎_elim
      (λ b. sym (across c d none f e b a (sym n)))
      (λ b. l.one_end e f a b n)
      (u.from f in_f))
      (u.from e in_e);
}

pub merge_outside : (c d both : List Equation) (face : List (List Equation)) → IsConsistent c → IsConsistent d → IsUnion c d both → (Any (λ e. Contains d (opposite e)) c → ⊥) → (Any (λ part. IsWithin part both) face → ⊥) → IsMergeOutside face c d both
merge_outside c d both face k l u none far = record {
  union = u;
  consistent = consistent_union c d both k l u none;
  outside = λ part (k, l, at) w. far (k, part, l, at, w);
}

-- the conjunctions that were made are merges of the two faces, and none implies the excluded one
pub record AreMerges (excluded left right done : List (List Equation)) : Type 0 where
  pub within : (x : Point) → face_truth done x ≡ true → (face_truth left x ≡ true) × (face_truth right x ≡ true)
  pub outside : (conj : List Equation) → Contains done conj → IsOutside excluded conj
  pub consistent : All IsConsistent done

-- where both faces are true, what was made is, or the excluded one
pub record AreEnough (excluded left right done : List (List Equation)) : Type 0 where
  pub whole : (x : Point) → face_truth left x ≡ true → face_truth right x ≡ true → (face_truth done x ≡ true) ⊎ (face_truth excluded x ≡ true)

pub no_merges : (excluded left right : List (List Equation)) → AreMerges excluded left right []
no_merges excluded left right = record {
  within = λ x h. absurd (false≢true h);
  outside = λ conj c. absurd (Contains-none conj c);
  consistent = All-nil IsConsistent;
}

pub enough_for_none : (excluded right done : List (List Equation)) → AreEnough excluded [] right done
enough_for_none excluded right done = record { whole = λ x h k. absurd (false≢true h) }

pub enough_of_none : (excluded left done : List (List Equation)) → AreEnough excluded left [] done
enough_of_none excluded left done = record { whole = λ x h k. absurd (false≢true k) }

pushed_truth : (done : List (List Equation)) (conj : List Equation) (x : Point) → face_truth done x ≡ true → face_truth (done ++ conj ∷ []) x ≡ true
pushed_truth done conj x h =
    let found = face_has done x h in
    face_from (done ++ conj ∷ []) found.0 x (Contains-append_left done (conj ∷ []) found.0 found.1) found.2

pub enough_pushed : (excluded left right done : List (List Equation)) (conj : List Equation) → AreEnough excluded left right done → AreEnough excluded left right (done ++ conj ∷ [])
enough_pushed excluded left right done conj p = record {
  whole = λ x h k. ⊎_elim (λ t. inl (pushed_truth done conj x t)) (λ t. inr t) (p.whole x h k);
}

pub merges_pushed : (excluded left right done : List (List Equation)) (c d both : List Equation) → AreMerges excluded left right done → Contains left c → Contains right d → IsMergeOutside excluded c d both → AreMerges excluded left right (done ++ both ∷ [])
merges_pushed excluded left right done c d both p in_c in_d m = record {
  within = λ x h.
      let found = face_has (done ++ both ∷ []) x h in
      ⊎_elim
      (λ old. p.within x (face_from done found.0 x old found.2))
      (λ new.
      let True : List Equation → Type 0 = λ conj. conj_truth conj x ≡ true in
      let parts = and_parts (conj_truth c x) (conj_truth d x) (sym (union_truth c d both m.union x) ∙ subst True (sym new) found.2) in
      (face_from left c x in_c parts.0, face_from right d x in_d parts.1))
      (Contains-push_cases done both found.0 found.1);
  outside = λ conj in_new.
      ⊎_elim
      (p.outside conj)
      (λ new. let Outside : List Equation → Type 0 = λ z. IsOutside excluded z in subst Outside new m.outside)
      (Contains-push_cases done both conj in_new);
  consistent = All-push IsConsistent done both p.consistent m.consistent;
}

-- one more conjunction of a face is true, or one of the first
more_truth : (face : List (List Equation)) (i : ℕ) (conj : List Equation) (x : Point) → i < length face → conj ≡ get_or face i conj → face_truth (take (i + 1) face) x ≡ true → (face_truth (take i face) x ≡ true) ⊎ (conj_truth conj x ≡ true)
more_truth face i conj x l e h =
    ⊎_elim
    (λ t. inl t)
    (λ t. inr (ap (λ c. conj_truth c x) e ∙ t))
    (or_cases (face_truth (take i face) x) (conj_truth (get_or face i conj) x) (sym (list_any_more (λ c. conj_truth c x) face i conj l) ∙ h))

one_truth : (conj : List Equation) (x : Point) → face_truth (conj ∷ []) x ≡ true → conj_truth conj x ≡ true
one_truth conj x h = ⊎_elim (λ t. t) (λ t. absurd (false≢true t)) (or_cases (conj_truth conj x) false h)

-- one conjunction of the left with one more of the right
module _ (excluded right : List (List Equation)) (j : ℕ) (c d : List Equation) (l : j < length right) (e : d ≡ get_or right j d) where
  pub enough_implied : (done : List (List Equation)) → AreEnough excluded (c ∷ []) (take j right) done → ImpliesTogether c d excluded → AreEnough excluded (c ∷ []) (take (j + 1) right) done
  enough_implied done p together = record {
    whole = λ x h k.
        ⊎_elim
        (p.whole x h)
        (λ t. inr (together x (one_truth c x h) t))
        (more_truth right j d x l e k);
  }

  pub enough_merged : (done : List (List Equation)) (both : List Equation) → AreEnough excluded (c ∷ []) (take j right) done → IsUnion c d both → AreEnough excluded (c ∷ []) (take (j + 1) right) (done ++ both ∷ [])
  enough_merged done both p u = record {
    whole = λ x h k.
        ⊎_elim
        ((enough_pushed excluded (c ∷ []) (take j right) done both p).whole x h)
        (λ t.
        inl
        (face_from (done ++ both ∷ []) both x (Contains-push done both)
        (union_truth c d both u x ∙ and_from (conj_truth c x) (conj_truth d x) (one_truth c x h) t)))
        (more_truth right j d x l e k);
  }

-- one more conjunction of the left with all of the right
pub enough_row : (excluded left right done : List (List Equation)) (i j : ℕ) (c : List Equation) → i < length left → c ≡ get_or left i c → length right ≤ j → AreEnough excluded (take i left) right done → AreEnough excluded (c ∷ []) (take j right) done → AreEnough excluded (take (i + 1) left) right done
enough_row excluded left right done i j c l e all before here = record {
  whole = λ x h k.
      ⊎_elim
      (λ t. before.whole x t k)
      (λ t.
      here.whole x (or_left (conj_truth c x) false t)
      (ap (λ face. face_truth face x) (take_all j right all) ∙ k))
      (more_truth left i c x l e h);
}

-- the normal form of all that was made
pub met_outside : (excluded left right done : List (List Equation)) → AreMerges excluded left right done → AreEnough excluded left right done → (face : List (List Equation)) → ((x : Point) → face_truth face x ≡ face_truth done x) → IsWithin face done → IsMeetOutside excluded left right face
met_outside excluded left right done p q face says among = record {
  within = λ x h. p.within x (sym (says x) ∙ h);
  whole = λ x h k. ⊎_elim (λ t. inl (says x ∙ t)) (λ t. inr t) (q.whole x h k);
  outside = λ conj c. p.outside conj (among.each conj c);
}

-- what excludes nothing is the whole meet
pub met_whole : (excluded left right face : List (List Equation)) → ((x : Point) → face_truth excluded x ≡ false) → IsMeetOutside excluded left right face → (x : Point) → face_truth face x ≡ (face_truth left x && face_truth right x)
met_whole excluded left right face never m x =
    same_truth (face_truth face x) (face_truth left x && face_truth right x)
    (λ h. let both = m.within x h in and_from (face_truth left x) (face_truth right x) both.0 both.1)
    (λ h.
    let both = and_parts (face_truth left x) (face_truth right x) h in
    ⊎_elim (λ t. t) (λ t. absurd (both_ways (face_truth excluded x) (never x) t)) (m.whole x both.0 both.1))

-- where no merge is left, the face is true wherever both others are
pub covers_at_end : (face left right : List (List Equation)) → AreEnough face left right [] → CoversMeet face left right
covers_at_end face left right p x h k = ⊎_elim (λ t. absurd (false≢true t)) (λ t. t) (p.whole x h k)

pub implied_by_none : (c d : List Equation) (face : List (List Equation)) (merge : Option (List Equation)) → MatchOption merge (ImpliesTogether c d face) (IsMergeOutside face c d) → is_some merge ≡ false → ImpliesTogether c d face
implied_by_none c d face None m e = m
implied_by_none c d face (Some both) m e = absurd (false≢true (sym e))

-- a merge is true at its own point, where the face that it does not imply is not
pub never_covers : (face left right : List (List Equation)) (c d : List Equation) (merge : Option (List Equation)) → Contains left c → Contains right d → MatchOption merge (ImpliesTogether c d face) (IsMergeOutside face c d) → is_some merge ≡ true → CoversMeet face left right → ⊥
never_covers face left right c d None in_c in_d m e covers = absurd (false≢true e)
never_covers face left right c d (Some both) in_c in_d m e covers =
    let x : Point = own_point both in
    let parts = and_parts (conj_truth c x) (conj_truth d x) (sym (union_truth c d both m.union x) ∙ true_at_own_point both m.consistent) in
    let found = face_has face x (covers x (face_from left c x in_c parts.0) (face_from right d x in_d parts.1)) in
    m.outside found.0 found.1 (within_own_point both found.0 found.2)
