-- Faces met one after the other, without what implies a goal.
use Rattle.std.proofs.Common.{◌≡◌, ℕ, ◌<◌, ◌+◌, ◌↔◌, ◌⊎◌, inl, inr, ⊎_elim, Bool, true, List, [], ◌∷◌, ◌++◌, length, take, get_or, refl, sym, ◌∙◌, ap, subst, IsTrue, arith}
use Rattle.std.specs.List.{All}
use Rattle.std.proofs.lemmas.Bool.{false≢true}
use Rattle.std.proofs.lemmas.List.{take_more}
use Rattle.std.proofs.lemmas.List.Elements.{All-nil, All-more, All-push, All-take, All-contains, Contains-append_left, Contains-push}
use Rattle.antichains.proofs.Members.{All-from_contains}
use Rattle.points.specs.Points.{Point}
use Rattle.faces.specs.declared.equations.Equation.{Equation}
use Rattle.faces.specs.Faces.{face_truth, HoldsUnder}
use Rattle.faces.specs.Meets.{CoversMeet, IsMeetOutside}

-- all the faces are true at a point
abbrev AreTrue : List (List (List Equation)) → Point → Type 0
AreTrue faces x = All (λ face. IsTrue (face_truth face x)) faces

-- where all the faces are true, the open face is, or the goal
pub record IsOpen (goal opened : List (List Equation)) (faces : List (List (List Equation))) : Type 0 where
  pub within : (x : Point) → face_truth opened x ≡ true → AreTrue faces x
  pub whole : (x : Point) → AreTrue faces x → (face_truth opened x ≡ true) ⊎ (face_truth goal x ≡ true)

pub open_first : (goal top : List (List Equation)) → ((x : Point) → face_truth top x ≡ true) → IsOpen goal top []
open_first goal top everywhere = record {
  within = λ x h. All-nil (λ face. IsTrue (face_truth face x));
  whole = λ x h. inl (everywhere x);
}

-- of all the faces, those before the last one and that one
before_last : (P : List (List Equation) → Type 0) (faces others : List (List (List Equation))) (last : List (List Equation)) → faces ≡ others ++ last ∷ [] → All P faces → All P others × P last
before_last P faces others last e all =
    let Each : List (List (List Equation)) → Type 0 = λ z. All P z in
    let pushed : All P (others ++ last ∷ []) = subst Each e all in (
      All-from_contains P others (λ f c. All-contains P (others ++ last ∷ []) f pushed (Contains-append_left others (last ∷ []) f c)),
      All-contains P (others ++ last ∷ []) last pushed (Contains-push others last),
    )

-- of one face more, those before and that one
fewer : (P : List (List Equation) → Type 0) (faces : List (List (List Equation))) (i : ℕ) (face : List (List Equation)) → i < length faces → face ≡ get_or faces i face → All P (take (i + 1) faces) → All P (take i faces) × P face
fewer P faces i face l e all =
    let both = before_last P (take (i + 1) faces) (take i faces) (get_or faces i face) (take_more faces i face l) all in (both.0, subst P (sym e) both.1)

pub open_more : (goal opened new : List (List Equation)) (faces : List (List (List Equation))) (i : ℕ) (face : List (List Equation)) → i < length faces → face ≡ get_or faces i face → IsOpen goal opened (take i faces) → IsMeetOutside goal opened face new → IsOpen goal new (take (i + 1) faces)
open_more goal opened new faces i face l e p m = record {
  within = λ x h.
      let both = m.within x h in
      All-more (λ f. IsTrue (face_truth f x)) faces i face l (p.within x both.0) (ap (λ f. face_truth f x) (sym e) ∙ both.1);
  whole = λ x h.
      let both = fewer (λ f. IsTrue (face_truth f x)) faces i face l e h in
      ⊎_elim (λ t. m.whole x t both.1) (λ t. inr t) (p.whole x both.0);
}

nothing_true : (opened : List (List Equation)) (x : Point) → opened ≡ [] → face_truth opened x ≡ true → ⊥
nothing_true opened x e h = false≢true (ap (λ face. face_truth face x) (sym e) ∙ h)

-- the open face is true nowhere before all the faces were met
pub holds_early : (goal opened last : List (List Equation)) (faces others : List (List (List Equation))) (i : ℕ) → faces ≡ others ++ last ∷ [] → IsOpen goal opened (take i others) → opened ≡ [] → IsTrue true ↔ HoldsUnder faces goal
holds_early goal opened last faces others i e p none = (
  λ h x all.
      let True : List (List Equation) → Type 0 = λ face. IsTrue (face_truth face x) in
      let both = before_last True faces others last e all in
      ⊎_elim (λ t. absurd (nothing_true opened x none t)) (λ t. t) (p.whole x (All-take True i others both.0)),
  λ h. refl,
)

-- of the last face it is enough to know whether the goal is true where it and the open face are
pub holds_at_last : (goal opened last : List (List Equation)) (faces others : List (List (List Equation))) (r : Bool) → faces ≡ others ++ last ∷ [] → IsOpen goal opened others → IsTrue r ↔ CoversMeet goal opened last → IsTrue r ↔ HoldsUnder faces goal
holds_at_last goal opened last faces others r e p covers = (
  λ h x all.
      let both = before_last (λ face. IsTrue (face_truth face x)) faces others last e all in
      ⊎_elim (λ t. covers.0 h x t both.1) (λ t. t) (p.whole x both.0),
  λ h.
      covers.1
      (λ x t k.
      let True : List (List (List Equation)) → Type 0 = λ z. AreTrue z x in
      h x (subst True (sym e) (All-push (λ face. IsTrue (face_truth face x)) others last (p.within x t) k))),
)

all_of_none : (P : List (List Equation) → Type 0) (faces : List (List (List Equation))) → length faces ≡ 0 → All P faces
all_of_none P [] e = All-nil P
all_of_none P (face ∷ rest) e = absurd (omega arith)

pub holds_under_none : (goal top : List (List Equation)) (faces : List (List (List Equation))) (r : Bool) → length faces ≡ 0 → ((x : Point) → face_truth top x ≡ true) → IsTrue r ↔ CoversMeet goal top top → IsTrue r ↔ HoldsUnder faces goal
holds_under_none goal top faces r e everywhere covers = (
  λ h x all. covers.0 h x (everywhere x) (everywhere x),
  λ h. covers.1 (λ x t k. h x (all_of_none (λ face. IsTrue (face_truth face x)) faces e)),
)
