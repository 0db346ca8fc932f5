-- What is true of a name at an end.
use Rattle.std.proofs.Common.{◌≡◌, ℕ, zero, suc, ◌⊎◌, inl, inr, ⊎_elim, Bool, true, false, not, [], ◌∷◌, refl, sym, ◌∙◌, ap}
use Rattle.points.specs.Values.{value_at}
use Rattle.points.specs.Points.{Coordinate, AtZero, AtOne, Free, Point, coordinate_at, end_coordinate, coordinate_value, valuation_of}
use Rattle.faces.specs.declared.equations.Equation.{Equation}
use Rattle.faces.specs.Equations.{is_at, opposite, equation_truth}

pub value_of_coordinate : (x : Point) (name : ℕ) → value_at (valuation_of x) name ≡ coordinate_value (coordinate_at x name)
value_of_coordinate [] zero = refl
value_of_coordinate [] (suc name) = refl
value_of_coordinate (c ∷ rest) zero = refl
value_of_coordinate (c ∷ rest) (suc name) = value_of_coordinate rest name

-- a name is at the end that it was put at, and at no other
pub is_at_its_end : (end : Bool) → is_at (end_coordinate end) end ≡ true
is_at_its_end true = refl
is_at_its_end false = refl

pub is_at_no_other : (end : Bool) → is_at (end_coordinate end) (not end) ≡ false
is_at_no_other true = refl
is_at_no_other false = refl

same_end : (end other : Bool) → is_at (end_coordinate end) other ≡ true → other ≡ end
same_end true true h = refl
same_end true false h = cc
same_end false true h = cc
same_end false false h = refl

abbrev at_end : ℕ → Bool → Equation
at_end name end = record { name = name; end = end }

two_ends : (name : ℕ) (a b : Bool) → (at_end name a ≡ at_end name b) ⊎ (at_end name b ≡ opposite (at_end name a))
two_ends name true true = inl refl
two_ends name true false = inr refl
two_ends name false true = inr refl
two_ends name false false = inl refl

-- two equations of one name are equal or opposite
pub same_or_opposite : (e f : Equation) → e.name ≡ f.name → (e ≡ f) ⊎ (f ≡ opposite e)
same_or_opposite e f n =
    ⊎_elim
    (λ p. inl (p ∙ ap (λ name. at_end name f.end) n))
    (λ p. inr (ap (λ name. at_end name f.end) (sym n) ∙ p))
    (two_ends e.name e.end f.end)

-- what is true where a name is at an end
pub true_at_end : (e : Equation) (x : Point) (end : Bool) → coordinate_at x e.name ≡ end_coordinate end → equation_truth e x ≡ true → e.end ≡ end
true_at_end e x end c h = same_end end e.end (sym (ap (λ z. is_at z e.end) c) ∙ h)

pub never_both : (e : Equation) (x : Point) → equation_truth e x ≡ true → equation_truth (opposite e) x ≡ true → ⊥
never_both e x h k = apart (coordinate_at x e.name) e.end h k
  where
    apart : (c : Coordinate) (end : Bool) → is_at c end ≡ true → is_at c (not end) ≡ true → ⊥
    apart AtZero true h k = cc
    apart AtZero false h k = cc
    apart AtOne true h k = cc
    apart AtOne false h k = cc
    apart Free end h k = cc
