-- Where a formula is at an end, literal by literal and product by product.
use Rattle.std.proofs.Common.{◌≡◌, ℕ, ◌<◌, ◌+◌, Bool, true, false, ◌&&◌, ◌||◌, List, [], ◌∷◌, ◌++◌, length, take, drop, get_or, refl, sym, ◌∙◌, ap, subst}
use Rattle.std.specs.List.{All, Any, Contains}
use Rattle.std.proofs.lemmas.Bool.{false_from_ne_true, and_parts, and_from}
use Rattle.std.proofs.Math.Bool.{and-true}
use Rattle.std.proofs.lemmas.List.{take_more, take-append-drop}
use Rattle.std.proofs.lemmas.List.Elements.{All-nil, All-push}
use Rattle.std.proofs.lemmas.List.Folds.{list_any-append}
use Rattle.antichains.specs.Antichains.{IsUnion}
use Rattle.antichains.proofs.Truth.{passes_at}
use Rattle.points.specs.Values.{Value, Valuation, meet, join}
use Rattle.points.specs.Points.{Point, valuation_of}
use Rattle.interval.specs.declared.literals.Literal.{Literal}
use Rattle.interval.specs.Literals.{literal_value}
use Rattle.interval.specs.Forms.{product_value, form_value}
use Rattle.interval.proofs.Laws.{or_false, product_value-push, form_value-push}
use Rattle.faces.specs.declared.equations.Equation.{Equation}
use Rattle.faces.specs.Equations.{opposite, equation_truth}
use Rattle.faces.specs.Faces.{conj_truth, face_truth, IsConsistent}
use Rattle.faces.proofs.Coordinates.{never_both}
use Rattle.faces.proofs.OwnPoints.{consistent_one, consistent_none, only_one}
use Rattle.faces.proofs.Meeting.{consistent_union, union_truth}

product_more : (product : List Literal) (i : ℕ) (d : Literal) (v : Valuation) → i < length product → product_value (take (i + 1) product) v ≡ meet (product_value (take i product) v) (literal_value (get_or product i d) v)
product_more product i d v l =
    ap (λ literals. product_value literals v) (take_more product i d l) ∙ product_value-push (take i product) (get_or product i d) v

form_more : (form : List (List Literal)) (i : ℕ) (product : List Literal) (v : Valuation) → i < length form → product ≡ get_or form i product → form_value (take (i + 1) form) v ≡ join (form_value (take i form) v) (product_value product v)
form_more form i product v l e =
    ap (λ products. form_value products v) (take_more form i product l)
    ∙ form_value-push (take i form) (get_or form i product) v
    ∙ ap (λ z. join (form_value (take i form) v) (product_value z v)) (sym e)

-- the conjunction so far is true where the literals so far are 1
pub record IsOneSoFar (conj : List Equation) (product : List Literal) : Type 0 where
  pub consistent : IsConsistent conj
  pub truth : (x : Point) → conj_truth conj x ≡ (product_value product (valuation_of x)).holds

pub one_so_far : IsOneSoFar [] []
one_so_far = record { consistent = consistent_none; truth = λ x. refl }

opposite_twice : (e : Equation) → opposite (opposite e) ≡ e
opposite_twice e = twice e.name e.end
  where
    twice : (name : ℕ) (end : Bool) → opposite (opposite (record { name = name; end = end })) ≡ record { name = name; end = end }
    twice name true = refl
    twice name false = refl

no_contradiction : (conj : List Equation) (e : Equation) → (Contains conj (opposite e) → ⊥) → Any (λ f. Contains (e ∷ []) (opposite f)) conj → ⊥
no_contradiction conj e none (k, f, l, at, c) =
    let Has : Equation → Type 0 = λ z. Contains conj z in
    none (subst Has (sym (ap opposite (only_one e (opposite f) c) ∙ opposite_twice f)) (k, l, at))

prefix_holds : (before after : List Literal) (v : Valuation) → (product_value (before ++ after) v).holds ≡ true → (product_value before v).holds ≡ true
prefix_holds [] after v h = refl
prefix_holds (literal ∷ before) after v h =
    let both = and_parts (literal_value literal v).holds (product_value (before ++ after) v).holds h in
    and_from (literal_value literal v).holds (product_value before v).holds both.0 (prefix_holds before after v both.1)

module _ (product : List Literal) (i : ℕ) (d : Literal) (e : Equation) (l : i < length product) (says : (x : Point) → equation_truth e x ≡ (literal_value (get_or product i d) (valuation_of x)).holds) where
  more_holds : (x : Point) → (product_value (take (i + 1) product) (valuation_of x)).holds ≡ ((product_value (take i product) (valuation_of x)).holds && equation_truth e x)
  more_holds x =
      ap (λ (v : Value). v.holds) (product_more product i d (valuation_of x) l)
      ∙ ap (λ t. (product_value (take i product) (valuation_of x)).holds && t) (sym (says x))

  pub one_more : (conj new : List Equation) → IsOneSoFar conj (take i product) → (Contains conj (opposite e) → ⊥) → IsUnion conj (e ∷ []) new → IsOneSoFar new (take (i + 1) product)
  one_more conj new p none u = record {
    consistent = consistent_union conj (e ∷ []) new p.consistent (consistent_one e) u (no_contradiction conj e none);
    truth = λ x.
        union_truth conj (e ∷ []) new u x
        ∙ ap (λ t. conj_truth conj x && t) (and-true (equation_truth e x))
        ∙ ap (λ t. t && equation_truth e x) (p.truth x)
        ∙ sym (more_holds x);
  }

  -- where the next literal contradicts them, the product is nowhere 1
  pub never_one : (conj : List Equation) → IsOneSoFar conj (take i product) → Contains conj (opposite e) → (x : Point) → (product_value product (valuation_of x)).holds ≡ false
  never_one conj p against x =
      false_from_ne_true (product_value product (valuation_of x)).holds
      (λ h.
      let Holds : List Literal → Type 0 = λ z. (product_value z (valuation_of x)).holds ≡ true in
      let before = prefix_holds (take (i + 1) product) (drop (i + 1) product) (valuation_of x) (subst Holds (sym (take-append-drop (i + 1) product)) h) in
      let both = and_parts (product_value (take i product) (valuation_of x)).holds (equation_truth e x) (sym (more_holds x) ∙ before) in
      never_both e x both.1 (passes_at (λ f. equation_truth f x) conj (opposite e) (p.truth x ∙ both.0) against))

-- the face so far is true where one of the products so far is 1
pub record AreOneSoFar (face : List (List Equation)) (form : List (List Literal)) : Type 0 where
  pub consistent : All IsConsistent face
  pub truth : (x : Point) → face_truth face x ≡ (form_value form (valuation_of x)).holds

pub ones_so_far : AreOneSoFar [] []
ones_so_far = record { consistent = All-nil IsConsistent; truth = λ x. refl }

module _ (form : List (List Literal)) (i : ℕ) (product : List Literal) (l : i < length form) (e : product ≡ get_or form i product) where
  form_holds_more : (x : Point) → (form_value (take (i + 1) form) (valuation_of x)).holds ≡ ((form_value (take i form) (valuation_of x)).holds || (product_value product (valuation_of x)).holds)
  form_holds_more x = ap (λ (v : Value). v.holds) (form_more form i product (valuation_of x) l e)

  pub ones_more : (face : List (List Equation)) (conj : List Equation) → AreOneSoFar face (take i form) → IsOneSoFar conj product → AreOneSoFar (face ++ conj ∷ []) (take (i + 1) form)
  ones_more face conj p q = record {
    consistent = All-push IsConsistent face conj p.consistent q.consistent;
    truth = λ x.
        list_any-append (λ c. conj_truth c x) face (conj ∷ [])
        ∙ ap (λ t. face_truth face x || t) (or_false (conj_truth conj x) ∙ q.truth x)
        ∙ ap (λ t. t || (product_value product (valuation_of x)).holds) (p.truth x)
        ∙ sym (form_holds_more x);
  }

  pub ones_same : (face : List (List Equation)) → AreOneSoFar face (take i form) → ((x : Point) → (product_value product (valuation_of x)).holds ≡ false) → AreOneSoFar face (take (i + 1) form)
  ones_same face p never = record {
    consistent = p.consistent;
    truth = λ x.
        p.truth x
        ∙ sym (or_false (form_value (take i form) (valuation_of x)).holds)
        ∙ ap (λ t. (form_value (take i form) (valuation_of x)).holds || t) (sym (never x))
        ∙ sym (form_holds_more x);
  }

  -- one more product that is to be 0
  pub zeros_more : (x : Point) (before part new : Bool) → new ≡ (before && part) → part ≡ (product_value product (valuation_of x)).fails → before ≡ (form_value (take i form) (valuation_of x)).fails → new ≡ (form_value (take (i + 1) form) (valuation_of x)).fails
  zeros_more x before part new n p b =
      n
      ∙ ap (λ t. t && part) b
      ∙ ap (λ t. (form_value (take i form) (valuation_of x)).fails && t) p
      ∙ sym (ap (λ (v : Value). v.fails) (form_more form i product (valuation_of x) l e))

-- the face so far is true where one of the literals so far is 0
pub record IsZeroSoFar (face : List (List Equation)) (product : List Literal) : Type 0 where
  pub consistent : All IsConsistent face
  pub truth : (x : Point) → face_truth face x ≡ (product_value product (valuation_of x)).fails

pub zero_so_far : IsZeroSoFar [] []
zero_so_far = record { consistent = All-nil IsConsistent; truth = λ x. refl }

-- one more literal that may be 0
pub zero_more : (product : List Literal) (i : ℕ) (d : Literal) (e : Equation) (face new : List (List Equation)) → i < length product → ((x : Point) → equation_truth e x ≡ (literal_value (get_or product i d) (valuation_of x)).fails) → new ≡ face ++ (e ∷ []) ∷ [] → IsZeroSoFar face (take i product) → IsZeroSoFar new (take (i + 1) product)
zero_more product i d e face new l says n p = record {
  consistent = rw n (All-push IsConsistent face (e ∷ []) p.consistent (consistent_one e));
  truth = λ x.
      ap (λ z. face_truth z x) n
      ∙ list_any-append (λ c. conj_truth c x) face ((e ∷ []) ∷ [])
      ∙ ap (λ t. face_truth face x || t) (or_false (equation_truth e x && true) ∙ and-true (equation_truth e x) ∙ says x)
      ∙ ap (λ t. t || (literal_value (get_or product i d) (valuation_of x)).fails) (p.truth x)
      ∙ sym (ap (λ (v : Value). v.fails) (product_more product i d (valuation_of x) l));
}
