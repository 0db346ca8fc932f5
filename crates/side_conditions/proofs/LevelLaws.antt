-- What indices have of what levels have.
use Rattle.std.proofs.Common.{◌≡◌, ℕ, zero, suc, ◌+◌, ◌≤◌, List, ◌∷◌, length, get_or, set, refl, sym, ◌∙◌, ap, ap₂, arith}
use Rattle.std.proofs.Math.ListN.{get_or-map}
use Rattle.std.proofs.lemmas.List.{get_or-set_other, get_or_past}
use Rattle.points.specs.Values.{free_value}
use Rattle.points.specs.Points.{Point, Free, coordinate_value, valuation_of, with_free}
use Rattle.points.proofs.PointLaws.{with_free_same}
use Rattle.side_conditions.specs.Levels.{by_index}

pub length-by_index : {X : Type 0} (default : X) (n : ℕ) (xs : List X) → length (by_index default n xs) ≡ n
length-by_index default zero xs = refl
length-by_index default (suc n) xs = ap suc (length-by_index default n xs)

-- an index has what its level has
pub by_index-at : {X : Type 0} (default : X) (n : ℕ) (xs : List X) (k level : ℕ) → n ≡ suc (level + k) → get_or (by_index default n xs) k default ≡ get_or xs level default
by_index-at default zero xs k level e = absurd (omega arith)
by_index-at default (suc n) xs zero level e = let s : n ≡ level = omega arith in ap (λ m. get_or xs m default) s
by_index-at default (suc n) xs (suc k) level e = by_index-at default n xs k level (omega arith)

-- levels and indices are counted from two sides
pub by_index-twice : {X : Type 0} (default : X) (n : ℕ) (xs : List X) (k level : ℕ) → n ≡ suc (level + k) → get_or (by_index default n (by_index default n xs)) k default ≡ get_or xs k default
by_index-twice default n xs k level e =
    by_index-at default n (by_index default n xs) k level e ∙ by_index-at default n xs level k (omega arith)

pub by_index-past : {X : Type 0} (default : X) (n : ℕ) (xs : List X) (k : ℕ) → n ≤ k → get_or (by_index default n xs) k default ≡ default
by_index-past default n xs k le =
    get_or_past (by_index default n xs) k default (let l = length-by_index default n xs in omega arith)

-- what a level from n on has tells nothing of n indices
pub by_index-set : {X : Type 0} (default : X) (n : ℕ) (xs : List X) (level : ℕ) (x : X) → n ≤ level → by_index default n (set xs level x) ≡ by_index default n xs
by_index-set default zero xs level x le = refl
by_index-set default (suc n) xs level x le =
    ap₂ ◌∷◌ (get_or-set_other xs level n x default (λ e. let h : n ≡ level = e in omega arith)) (by_index-set default n xs level x (omega arith))

-- a point by index, as the valuation that it is
pub valuation-by_index : (n : ℕ) (x : Point) → valuation_of (by_index Free n x) ≡ by_index free_value n (valuation_of x)
valuation-by_index zero x = refl
valuation-by_index (suc n) x = ap₂ ◌∷◌ (sym (get_or-map coordinate_value x n Free)) (valuation-by_index n x)

-- with the name of level n free, which is the innermost of n + 1
pub free-by_index : (n : ℕ) (x : Point) → by_index Free (suc n) (with_free n x) ≡ Free ∷ by_index Free n x
free-by_index n x = ap₂ ◌∷◌ (with_free_same n x) (by_index-set Free n x n Free (omega arith))
