-- A node weighs more than two earlier ones.
use Rattle.std.proofs.Common.{◌≡◌, ◌+◌, ◌*◌, ◌^◌, ◌<◌, ◌≤◌, ℕ, suc, arith, lit≤}
use Rattle.std.proofs.Math.Nat.{pow-suc, one-le-pow, pow-le-pow_right}
use Rattle.book.specs.declared.kernel.NodeId.{NodeId}
use Rattle.literal_types.specs.Openings.{weight}

pub some_weight : (n : NodeId) → 0 < weight n
some_weight n = let one : 1 ≤ 3 ^ n.0 = one-le-pow n.0 3 (omega arith) in omega (arith, one)

thrice : (p n : ℕ) → p < n → 3 * 3 ^ p ≤ 3 ^ n
thrice p n lt =
    let le : 3 ^ suc p ≤ 3 ^ n = pow-le-pow_right (lit≤ tt) (omega (arith, lt)) in
    let e : 3 ^ suc p ≡ 3 ^ p * 3 = pow-suc 3 p in
    omega (arith, le, e)

pub one_earlier : (p n : NodeId) → p.0 < n.0 → 1 + weight p < weight n
one_earlier p n lt =
    let t = thrice p.0 n.0 lt in
    let s = some_weight p in
    omega (arith, t, s)

pub two_earlier : (p q n : NodeId) → p.0 < n.0 → q.0 < n.0 → weight p + weight q < weight n
two_earlier p q n lt lu =
    let t = thrice p.0 n.0 lt in
    let u = thrice q.0 n.0 lu in
    let s = some_weight p in
    omega (arith, t, u, s)
