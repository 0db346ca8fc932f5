-- A question weighs more than what its entry asks.
use Rattle.std.proofs.Common.{◌≡◌, ◌+◌, ◌*◌, ◌-◌, ◌^◌, ◌<◌, ◌≤◌, ℕ, suc, List, [], ◌∷◌, ◌++◌, ◌∙◌, ap, arith, lit≤}
use Rattle.std.proofs.Math.Nat.{pow-suc, one-le-pow, pow-le-pow_right}
use Rattle.book.specs.declared.kernel.NodeId.{NodeId}
use Rattle.presuppositions.specs.declared.source.Label.{Label}
use Rattle.presuppositions.specs.declared.source.Label.TheVariants as label
use Rattle.presuppositions.specs.declared.source.Source.{Source}
use Rattle.presuppositions.specs.declared.source.Source.TheVariants as source
use Rattle.presupposed.specs.declared.memory.Question.{Question}
use Rattle.presupposed.specs.declared.tasks.Task.{Task}
use Rattle.presupposed.specs.Tasks.{label_weight, weight, work, tasks_for}

pub some_weight : (n : NodeId) → 0 < weight n
some_weight n = let one : 1 ≤ 64 ^ n.0 = one-le-pow n.0 64 (omega arith) in omega (arith, one)

pub much_earlier : (p n : NodeId) → p.0 < n.0 → 64 * weight p ≤ weight n
much_earlier p n lt =
    let le : 64 ^ suc p.0 ≤ 64 ^ n.0 = pow-le-pow_right (lit≤ tt) (omega (arith, lt)) in
    let e : 64 ^ suc p.0 ≡ 64 ^ p.0 * 64 = pow-suc 64 p.0 in
    omega (arith, le, e)

pub work-append : (ts us : List Task) → work (ts ++ us) ≡ work ts + work us
work-append [] us = omega arith
work-append (t ∷ ts) us = let e = work-append ts us in omega (arith, e)

few_more : (l : Label) → label_weight l ≤ 2
few_more label.Right = omega arith
few_more _ = omega arith

-- what finds a source weighs less than three times the node
pub source_work : (p n : NodeId) (s : Source) → p.0 < n.0 → work (tasks_for p s) < 3 * weight n
source_work p n (source.Premise k) lt =
    let m = much_earlier p n lt in
    let one = some_weight p in
    omega (arith, m, one)
source_work p n (source.Behind k l) lt =
    let m = much_earlier p n lt in
    let one = some_weight p in
    let few = few_more l in
    omega (arith, m, one, few)
source_work p n (source.Further k label.Context l) lt =
    let m = much_earlier p n lt in
    let one = some_weight p in
    omega (arith, m, one)
source_work p n (source.Further k m l) lt =
    let e = much_earlier p n lt in
    let one = some_weight p in
    let few = few_more m in
    omega (arith, e, one, few)

one_more : (a c : ℕ) → suc a * c ≡ a * c + c
one_more a c = omega arith

-- so it is with an entry that has one source more, and that of another to come
pub fill_work : (q : Question) (n w rest : ℕ) → n ≤ 16 → w < 3 * weight q.node → (((16 - n) * (3 * weight q.node) + 1) + (w + rest)) < (17 - n) * (3 * weight q.node) + 1 + rest
fill_work q n w rest le lt =
    let k : 17 - n ≡ suc (16 - n) = omega (arith, le) in
    let e : (17 - n) * (3 * weight q.node) ≡ (16 - n) * (3 * weight q.node) + 3 * weight q.node = ap (λ j. j * (3 * weight q.node)) k ∙ one_more (16 - n) (3 * weight q.node) in
    omega (arith, e, lt)
