-- Formulas of one value under the faces of a context: it is decided at the conjunctions of these, each of which fixes names.
use Rattle.std.proofs.Common.{◌≡◌, ℕ, zero, suc, ◌+◌, ◌-◌, ◌<◌, ⊎_elim, Bool, true, false, List, [], ◌∷◌, get_or, length, take, ◌&&◌, add-one, refl, sym, ◌∙◌, ap, ap₂, subst, arith}
use Rattle.std.specs.Prelude.{◌↔◌, IsTrue}
use Rattle.std.specs.List.{All, Contains, list_all}
use Rattle.std.proofs.lemmas.Bool.{and_parts, cases_eq, cases_lt}
use Rattle.std.proofs.lemmas.List.Elements.{All-nil, All-cons, All-head, All-tail, All-push, All-contains}
use Rattle.std.proofs.lemmas.List.{take_more}
use Rattle.trees.specs.Trees.{Tree}
use Rattle.trees.specs.Judgements.{Context}
use Rattle.points.specs.Values.{Value, Valuation, value_at, with_value, end_value, free_value}
use Rattle.points.specs.Points.{Coordinate, AtZero, AtOne, Free, Point, coordinate_at, end_coordinate, IsOver, LiesOver}
use Rattle.points.proofs.Valuations.{with_value_same, with_value_other}
use Rattle.points.proofs.PointLaws.{with_end_same, with_end_other}
use Rattle.interval.specs.declared.literals.Literal.{Literal}
use Rattle.interval.specs.Forms.{form_value}
use Rattle.faces.specs.declared.equations.Equation.{Equation}
use Rattle.faces.specs.Equations.{is_at, equation_truth}
use Rattle.faces.specs.Faces.{face_truth, IsConsistent}
use Rattle.faces.proofs.OwnPoints.{own_point, true_at_own_point, face_from, face_has}
use Rattle.antichains.proofs.Truth.{passes_at}
use Rattle.antichains.proofs.Members.{Contains-head, Contains-rest, All-from_contains}
use Rattle.conditions.specs.Sides.{value, SameIn}
use Rattle.side_conditions.specs.Levels.{count_indices, by_index, values_by_index, point_by_index}
use Rattle.side_conditions.specs.Readings.{IsFormOf, AreFacesOf}
use Rattle.side_conditions.specs.Restricted.{with_ends, SameWith, SameWithin}
use Rattle.side_conditions.specs.Contexts.{IsMeetOf}
use Rattle.side_conditions.proofs.ContextLaws.{AllTrue}
use Rattle.side_conditions.proofs.LevelLaws.{by_index-at, by_index-twice, by_index-past}
use Rattle.side_conditions.proofs.AgreementLaws.{SameValues, value-same}
use Rattle.side_conditions.proofs.HoldsLaws.{satisfies-again}

is_over_end : (end : Bool) → IsOver (end_coordinate end) (end_value end)
is_over_end true = refl
is_over_end false = refl

-- a valuation with the ends of a conjunction lies over the point that this names
over_own_point : (conj : List Equation) (v : Valuation) → LiesOver (own_point conj) (with_ends conj v)
over_own_point [] v name = tt
over_own_point (e ∷ rest) v name =
    ⊎_elim
    (λ same.
    subst (λ n. IsOver (coordinate_at (own_point (e ∷ rest)) n) (value_at (with_ends (e ∷ rest) v) n)) (sym same)
    (subst (λ c. IsOver c (value_at (with_ends (e ∷ rest) v) e.name)) (sym (with_end_same e.name e.end (own_point rest)))
    (subst (IsOver (end_coordinate e.end)) (sym (with_value_same e.name (end_value e.end) (with_ends rest v))) (is_over_end e.end))))
    (λ other.
    subst (λ c. IsOver c (value_at (with_ends (e ∷ rest) v) name)) (sym (with_end_other e.name e.end (own_point rest) name other))
    (subst (IsOver (coordinate_at (own_point rest) name)) (sym (with_value_other e.name (end_value e.end) (with_ends rest v) name other)) (over_own_point rest v name)))
    (cases_eq name e.name)

at_an_end : (c : Coordinate) (end : Bool) (w : Value) → is_at c end ≡ true → IsOver c w → w ≡ end_value end
at_an_end AtZero true w at over = cc
at_an_end AtZero false w at over = over
at_an_end AtOne true w at over = over
at_an_end AtOne false w at over = cc
at_an_end Free end w at over = cc

-- and a valuation over a point at which the conjunction is true has these ends already
has_ends : (conj : List Equation) (x : Point) (v : Valuation) → ((e : Equation) → Contains conj e → equation_truth e x ≡ true) → LiesOver x v → (name : ℕ) → value_at (with_ends conj v) name ≡ value_at v name
has_ends [] x v true_at over name = refl
has_ends (e ∷ rest) x v true_at over name =
    ⊎_elim
    (λ same.
    let at = true_at e (Contains-head e rest) in
    ap (value_at (with_ends (e ∷ rest) v)) same
    ∙ with_value_same e.name (end_value e.end) (with_ends rest v)
    ∙ sym (at_an_end (coordinate_at x e.name) e.end (value_at v e.name) at (over e.name))
    ∙ ap (value_at v) (sym same))
    (λ other.
    with_value_other e.name (end_value e.end) (with_ends rest v) name other
    ∙ has_ends rest x v (λ f c. true_at f (Contains-rest e rest f c)) over name)
    (cases_eq name e.name)

-- what lies over a point by level lies over it by index
over_by_index : (n : ℕ) (x : Point) (v : Valuation) → LiesOver x v → LiesOver (by_index Free n x) (by_index free_value n v)
over_by_index n x v over k =
    ⊎_elim
    (λ lt.
    let level = n - suc k in
    let e : n ≡ suc (level + k) = omega arith in
    subst (λ c. IsOver c (value_at (by_index free_value n v) k)) (sym (by_index-at Free n x k level e))
    (subst (IsOver (coordinate_at x level)) (sym (by_index-at free_value n v k level e)) (over level)))
    (λ le. subst (λ c. IsOver c (value_at (by_index free_value n v) k)) (sym (by_index-past Free n x k le)) tt)
    (cases_lt k n)

values-again : (G : Context) (v : Valuation) → SameValues (count_indices G) (values_by_index G (values_by_index G v)) v
values-again G v k lt = by_index-twice free_value (count_indices G) v k (count_indices G - suc k) (omega arith)

-- formulas of one form have one value
pub same_everywhere : (G : Context) (r s : Tree) (left right : List (List Literal)) → IsFormOf G r left → IsFormOf G s right → left ≡ right → SameIn G r s
same_everywhere G r s left right is_left is_right same = record {
  left = is_left.is_one;
  right = is_right.is_one;
  agree = λ x sat v over.
      let w = values_by_index G v in
      value-same G v (values_by_index G w) (λ k lt. sym (values-again G v k lt)) r is_left.is_one
      ∙ sym (is_left.value_is w)
      ∙ ap (λ form. form_value form w) same
      ∙ is_right.value_is w
      ∙ value-same G (values_by_index G w) v (values-again G v) s is_right.is_one;
}

by_index-same : (n : ℕ) (v w : Valuation) → ((name : ℕ) → value_at v name ≡ value_at w name) → by_index free_value n v ≡ by_index free_value n w
by_index-same zero v w same = refl
by_index-same (suc n) v w same = ap₂ ◌∷◌ (same n) (by_index-same n v w same)

all_true : (x : Point) (faces : List (List (List Equation))) → AllTrue x faces → list_all (λ g. face_truth g x) faces ≡ true
all_true x [] all = refl
all_true x (g ∷ faces) all = ap₂ ◌&&◌ (All-head (λ h. IsTrue (face_truth h x)) g faces all) (all_true x faces (All-tail (λ h. IsTrue (face_truth h x)) g faces all))

true_each : (x : Point) (faces : List (List (List Equation))) → list_all (λ g. face_truth g x) faces ≡ true → AllTrue x faces
true_each x [] h = All-nil (λ (g : List (List Equation)). IsTrue (face_truth g x))
true_each x (g ∷ faces) h =
    let both = and_parts (face_truth g x) (list_all (λ i. face_truth i x) faces) h in
    All-cons (λ i. IsTrue (face_truth i x)) g faces both.0 (true_each x faces both.1)

module _ (G : Context) (faces : List (List (List Equation))) (given : AreFacesOf G faces) (meet : List (List Equation))
    (met : IsMeetOf faces meet) where
  met_true : (x : Point) → AllTrue x faces → face_truth meet x ≡ true
  met_true x all = met x ∙ all_true x faces all

  true_of_met : (x : Point) → face_truth meet x ≡ true → AllTrue x faces
  true_of_met x h = true_each x faces (sym (met x) ∙ h)

  form-same : (t : Tree) (form : List (List Literal)) → IsFormOf G t form → (v w : Valuation) → ((name : ℕ) → value_at v name ≡ value_at w name) → form_value form v ≡ form_value form w
  form-same t form r v w same = r.value_is v ∙ ap (λ u. value u t) (by_index-same (count_indices G) v w same) ∙ sym (r.value_is w)

  -- two formulas have one value in G exactly where they have one with the ends of each conjunction
  pub same_at_ends : (r s : Tree) (left right : List (List Literal)) → IsFormOf G r left → IsFormOf G s right → All IsConsistent meet
      → SameWithin meet left right ↔ SameIn G r s
  same_at_ends r s left right is_left is_right consistent = (
    λ h. record {
      left = is_left.is_one;
      right = is_right.is_one;
      agree = λ y sat v over.
          let n = count_indices G in
          let x = point_by_index G y in
          let w = values_by_index G v in
          let here = face_has meet x (met_true x ((given.exact x).0 (satisfies-again G y sat))) in
          let ends : (name : ℕ) → value_at (with_ends here.0 w) name ≡ value_at w name = has_ends here.0 x w (λ e c. passes_at (λ f. equation_truth f x) here.0 e here.2 c) (over_by_index n y v over) in
          value-same G v (values_by_index G w) (λ k lt. sym (values-again G v k lt)) r is_left.is_one
          ∙ sym (is_left.value_is w)
          ∙ sym (form-same r left is_left (with_ends here.0 w) w ends)
          ∙ All-contains (λ conj. SameWith conj left right) meet here.0 h here.1 w
          ∙ form-same s right is_right (with_ends here.0 w) w ends
          ∙ is_right.value_is w
          ∙ value-same G (values_by_index G w) v (values-again G v) s is_right.is_one;
    },
    λ h. All-from_contains (λ conj. SameWith conj left right) meet (λ conj c v.
        let x = own_point conj in
        let sat = (given.exact x).1 (true_of_met x (face_from meet conj x c (true_at_own_point conj (All-contains IsConsistent meet conj consistent c)))) in
        is_left.value_is (with_ends conj v)
        ∙ h.agree (point_by_index G x) sat (values_by_index G (with_ends conj v)) (over_by_index (count_indices G) x (with_ends conj v) (over_own_point conj v))
        ∙ sym (is_right.value_is (with_ends conj v))),
  )

-- the equations of a conjunction one after the other

ends_suc : (es : List Equation) (at : ℕ) (d : Equation) (v : Valuation) → at < length es → with_ends (take (suc at) es) v ≡ with_ends (take at es) (with_value (get_or es at d).name (end_value (get_or es at d).end) v)
ends_suc [] at d v lt = absurd (omega arith)
ends_suc (e ∷ es) zero d v lt = refl
ends_suc (e ∷ es) (suc at) d v lt = ap (with_value e.name (end_value e.end)) (ends_suc es at d v (omega arith))

pub ends_more : (es : List Equation) (at : ℕ) (d : Equation) (v : Valuation) → at < length es → with_ends (take (at + 1) es) v ≡ with_ends (take at es) (with_value (get_or es at d).name (end_value (get_or es at d).end) v)
ends_more es at d v lt = ap (λ n. with_ends (take n es) v) (add-one at) ∙ ends_suc es at d v lt

pub same_restricted : (conj : List Equation) (first : Equation) (rest : List Equation) (left right new_left new_right : List (List Literal)) (same : Bool) → conj ≡ first ∷ rest → ((v : Valuation) → form_value new_left v ≡ form_value left (with_ends (first ∷ rest) v)) → ((v : Valuation) → form_value new_right v ≡ form_value right (with_ends (first ∷ rest) v)) → (IsTrue same ↔ ((v : Valuation) → form_value new_left v ≡ form_value new_right v)) → IsTrue same ↔ SameWith conj left right
same_restricted conj first rest left right new_left new_right same is l r exact = (
  λ h v. ap (λ es. form_value left (with_ends es v)) is ∙ sym (l v) ∙ exact.0 h v ∙ r v ∙ sym (ap (λ es. form_value right (with_ends es v)) is),
  λ h. exact.1 (λ v. l v ∙ sym (ap (λ es. form_value left (with_ends es v)) is) ∙ h v ∙ ap (λ es. form_value right (with_ends es v)) is ∙ sym (r v)),
)

pub same_unrestricted : (conj : List Equation) (left right : List (List Literal)) (same : Bool) → conj ≡ [] → (IsTrue same ↔ ((v : Valuation) → form_value left v ≡ form_value right v)) → IsTrue same ↔ SameWith conj left right
same_unrestricted conj left right same is exact = (
  λ h v. ap (λ es. form_value left (with_ends es v)) is ∙ exact.0 h v ∙ sym (ap (λ es. form_value right (with_ends es v)) is),
  λ h. exact.1 (λ v. sym (ap (λ es. form_value left (with_ends es v)) is) ∙ h v ∙ ap (λ es. form_value right (with_ends es v)) is),
)

pub within_more : (face : List (List Equation)) (at : ℕ) (conj : List Equation) (left right : List (List Literal)) → at < length face → conj ≡ get_or face at conj → SameWithin (take at face) left right → SameWith conj left right → SameWithin (take (at + 1) face) left right
within_more face at conj left right lt is all here =
    subst (All (λ c. SameWith c left right)) (sym (take_more face at conj lt))
    (All-push (λ c. SameWith c left right) (take at face) (get_or face at conj) all (subst (λ c. SameWith c left right) is here))

pub restricted_more : (form old new : List (List Literal)) (first : Equation) (rest : List Equation) (at : ℕ) (d : Equation) → at < length rest
    → ((v : Valuation) → form_value old v ≡ form_value form (with_ends (first ∷ take at rest) v))
    → ((v : Valuation) → form_value new v ≡ form_value old (with_value (get_or rest at d).name (end_value (get_or rest at d).end) v))
    → (v : Valuation) → form_value new v ≡ form_value form (with_ends (first ∷ take (at + 1) rest) v)
restricted_more form old new first rest at d lt before step v =
    step v
    ∙ before (with_value (get_or rest at d).name (end_value (get_or rest at d).end) v)
    ∙ ap (λ u. form_value form (with_value first.name (end_value first.end) u)) (sym (ends_more rest at d v lt))

pub none_of : {X : Type 0} (xs : List X) → length xs ≡ 0 → xs ≡ []
none_of [] e = refl
none_of (x ∷ xs) e = absurd (omega arith)
