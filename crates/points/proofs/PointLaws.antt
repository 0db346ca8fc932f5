-- Points with one name made free or put at an end, and the valuations that lie over them.
use Rattle.std.proofs.Common.{◌≡◌, ◌≢◌, ℕ, zero, suc, ⊎_elim, Bool, [], ◌∷◌, refl, sym, ap, subst}
use Rattle.std.proofs.lemmas.Bool.{cases_eq}
use Rattle.std.proofs.lemmas.List.{get_or-set_other}
use Rattle.points.specs.Values.{Value, Valuation, value_at, with_value}
use Rattle.points.specs.Points.{Point, Free, coordinate_at, with_free, end_coordinate, with_end, IsOver, LiesOver}
use Rattle.points.proofs.Valuations.{with_value_other}

pub with_free_same : (name : ℕ) (x : Point) → coordinate_at (with_free name x) name ≡ Free
with_free_same zero [] = refl
with_free_same zero (c ∷ rest) = refl
with_free_same (suc name) [] = refl
with_free_same (suc name) (c ∷ rest) = with_free_same name rest

pub with_free_other : (name : ℕ) (x : Point) (other : ℕ) → other ≢ name → coordinate_at (with_free name x) other ≡ coordinate_at x other
with_free_other name x other n = get_or-set_other x name other Free Free n

pub with_end_same : (name : ℕ) (end : Bool) (x : Point) → coordinate_at (with_end name end x) name ≡ end_coordinate end
with_end_same zero end [] = refl
with_end_same zero end (c ∷ rest) = refl
with_end_same (suc name) end [] = with_end_same name end []
with_end_same (suc name) end (c ∷ rest) = with_end_same name end rest

pub with_end_other : (name : ℕ) (end : Bool) (x : Point) (other : ℕ) → other ≢ name → coordinate_at (with_end name end x) other ≡ coordinate_at x other
with_end_other zero end [] zero n = absurd (n refl)
with_end_other zero end [] (suc other) n = refl
with_end_other zero end (c ∷ rest) zero n = absurd (n refl)
with_end_other zero end (c ∷ rest) (suc other) n = refl
with_end_other (suc name) end [] zero n = refl
with_end_other (suc name) end [] (suc other) n = with_end_other name end [] other (λ e. n (ap suc e))
with_end_other (suc name) end (c ∷ rest) zero n = refl
with_end_other (suc name) end (c ∷ rest) (suc other) n = with_end_other name end rest other (λ e. n (ap suc e))

pub lies_over-with_free : (x : Point) (v : Valuation) (name : ℕ) (w : Value) → LiesOver x v → LiesOver (with_free name x) (with_value name w v)
lies_over-with_free x v name w over other =
    ⊎_elim
    (λ e.
    subst (λ n. IsOver (coordinate_at (with_free name x) n) (value_at (with_value name w v) n)) (sym e)
    (subst (λ c. IsOver c (value_at (with_value name w v) name)) (sym (with_free_same name x)) tt))
    (λ n.
    subst (λ c. IsOver c (value_at (with_value name w v) other)) (sym (with_free_other name x other n))
    (subst (IsOver (coordinate_at x other)) (sym (with_value_other name w v other n)) (over other)))
    (cases_eq other name)
