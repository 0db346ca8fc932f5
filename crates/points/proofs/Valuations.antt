-- A valuation with another value for one name.
use Rattle.std.proofs.Common.{◌≡◌, ◌≢◌, ℕ, zero, suc, [], ◌∷◌, refl, ap}
use Rattle.points.specs.Values.{Value, Valuation, value_at, with_value}

pub with_value_same : (name : ℕ) (v : Value) (valuation : Valuation) → value_at (with_value name v valuation) name ≡ v
with_value_same zero v [] = refl
with_value_same zero v (w ∷ rest) = refl
with_value_same (suc name) v [] = with_value_same name v []
with_value_same (suc name) v (w ∷ rest) = with_value_same name v rest

pub with_value_other : (name : ℕ) (v : Value) (valuation : Valuation) (other : ℕ) → other ≢ name → value_at (with_value name v valuation) other ≡ value_at valuation other
with_value_other zero v [] zero n = absurd (n refl)
with_value_other zero v [] (suc other) n = refl
with_value_other zero v (w ∷ rest) zero n = absurd (n refl)
with_value_other zero v (w ∷ rest) (suc other) n = refl
with_value_other (suc name) v [] zero n = refl
with_value_other (suc name) v [] (suc other) n = with_value_other name v [] other (λ e. n (ap suc e))
with_value_other (suc name) v (w ∷ rest) zero n = refl
with_value_other (suc name) v (w ∷ rest) (suc other) n = with_value_other name v rest other (λ e. n (ap suc e))
