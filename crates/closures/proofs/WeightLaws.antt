-- What a row names weighs less than the row.
use Rattle.std.proofs.Common.{◌≡◌, ℕ, zero, suc, ◌+◌, ◌*◌, ◌^◌, ◌<◌, ◌≤◌, List, [], ◌∷◌, refl, ap, arith}
use Rattle.std.proofs.Math.Nat.{pow-suc}
use Rattle.closures.specs.Environments.{Waiting, deepened}
use Rattle.closures.specs.Closures.{raised_list}
use Rattle.closures.specs.Weights.{row_weight, delayed_weight, weight_of}
use Rattle.closures.specs.declared.environments.Delayed.{Delayed}
use Rattle.closures.specs.declared.environments.Delayed.TheVariants.{Under, Raised}

pub row_weight-suc : (k : ℕ) → row_weight (suc k) ≡ row_weight k + row_weight k + row_weight k
row_weight-suc k = let e : 3 ^ suc k ≡ 3 ^ k * 3 = pow-suc 3 k in omega arith

pub row_weight-pos : (k : ℕ) → 0 < row_weight k
row_weight-pos zero = omega arith
row_weight-pos (suc k) = let e = row_weight-suc k in let p = row_weight-pos k in omega arith

pub row_weight-rises : (j k : ℕ) → j ≤ k → row_weight j ≤ row_weight k
row_weight-rises zero k le = let p = row_weight-pos k in omega arith
row_weight-rises (suc j) zero le = absurd (omega arith)
row_weight-rises (suc j) (suc k) le =
    let a = row_weight-suc j in
    let b = row_weight-suc k in
    let r = row_weight-rises j k (omega arith) in
    omega arith

-- a row weighs more than two earlier ones
pub row_weight-two : (i j k : ℕ) → i < k → j < k → row_weight i + row_weight j < row_weight k
row_weight-two i j zero a b = absurd (omega arith)
row_weight-two i j (suc k) a b =
    let e = row_weight-suc k in
    let p = row_weight-pos k in
    let r = row_weight-rises i k (omega arith) in
    let s = row_weight-rises j k (omega arith) in
    omega arith

-- and more than an earlier one and a shift
pub row_weight-one : (j k : ℕ) → j < k → row_weight j + 1 < row_weight k
row_weight-one j k a =
    let p = row_weight-pos j in
    let r = row_weight-two j j k a a in
    omega arith

pub delayed_weight-pos : (s : Delayed) → 0 < delayed_weight s
delayed_weight-pos (Under row) = row_weight-pos row.0
delayed_weight-pos (Raised n) = omega arith

pub weight_of-deepened : (n : ℕ) (ws : List Waiting) → weight_of (deepened n ws) ≡ weight_of ws
weight_of-deepened n [] = refl
weight_of-deepened n (w ∷ ws) = ap (λ m. delayed_weight w.delayed + m) (weight_of-deepened n ws)

pub weight_of-raised_list : (n : ℕ) (ws : List Waiting) → weight_of (raised_list n ws) ≤ 1 + weight_of ws
weight_of-raised_list zero ws = omega arith
weight_of-raised_list (suc n) ws = omega arith
