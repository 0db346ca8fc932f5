-- Operators over the rows of their kids.
use Rattle.std.proofs.Common.{◌≡◌, ℕ, zero, suc, ◌+◌, ◌<◌, ◌≤◌, List, [], ◌∷◌, ◌++◌, length, drop, get_or, refl, sym, ◌∙◌, ap, ap₂, subst, arith}
use Rattle.std.specs.Prelude.{option_and_then, Some}
use Rattle.trees.specs.declared.op.Op.{Op}
use Rattle.trees.specs.Operators.{kids_of, binds_of}
use Rattle.trees.specs.Trees.{Tree, Var, Make, trees_of}
use Rattle.trees.specs.Things.{Meanings, ATree, made}
use Rattle.trees.proofs.OperatorLaws.{binds_of-most}
use Rattle.rows.specs.Views.{IsTree}
use Rattle.rows.specs.Tables.{Grows}
use Rattle.closures.specs.declared.closure.Closure.{Closure}
use Rattle.closures.specs.Environments.{Waiting, listed, deepened, IsWithin}
use Rattle.closures.specs.Closures.{IsClosure, Stands, under, delays, kid_things, all_there}
use Rattle.closures.proofs.EnvironmentLaws.{listed-grows}
use Rattle.closures.proofs.HeadLaws.{closure-deeper, closure_meaning-grows, stands-deeper, kid-stands}
use Rattle.side_conditions.specs.Shapes.{tree_of}
use Rattle.side_conditions.proofs.OpeningLaws.{made_over, kid_trees as opened_trees}
use Rattle.tree_frames.specs.declared.frames.Frame.{Frame}
use Rattle.tree_frames.specs.Frames.{tree_in, kid_trees, frame_trees, weight, weights, all_weights, FrameStands, IsKidAt, IsFrame}

pub length-kid_trees : (f : Meanings) (ws : List Waiting) (o : Op) (j : ℕ) (ks : List ℕ) → length (kid_trees f ws o j ks) ≡ length ks
length-kid_trees f ws o j [] = refl
length-kid_trees f ws o j (k ∷ ks) = ap suc (length-kid_trees f ws o (suc j) ks)

pub drop-kid : (f : Meanings) (ws : List Waiting) (o : Op) (j : ℕ) (ks : List ℕ) (at i : ℕ) → at < length ks → i ≡ at + j
    → drop at (kid_trees f ws o j ks) ≡ tree_of (under (f (get_or ks at 0)) (delays f (deepened (binds_of o i) ws))) ∷ drop (suc at) (kid_trees f ws o j ks)
drop-kid f ws o j [] at i lt e = absurd (omega arith)
drop-kid f ws o j (k ∷ ks) zero i lt e =
    let same : j ≡ i = omega arith in
    ap (λ x. tree_of (under (f k) (delays f (deepened (binds_of o x) ws))) ∷ kid_trees f ws o (suc j) ks) same
drop-kid f ws o j (k ∷ ks) (suc at) i lt e = drop-kid f ws o (suc j) ks at i (omega arith) (omega arith)

pub drop-past : {X : Type 0} (n : ℕ) (xs : List X) → length xs ≤ n → drop n xs ≡ []
drop-past zero [] le = refl
drop-past zero (x ∷ xs) le = absurd (omega arith)
drop-past (suc n) [] le = refl
drop-past (suc n) (x ∷ xs) le = drop-past n xs (omega arith)

pub frame-deeper : (f : Meanings) (known : List (List Waiting)) (n m : ℕ) (r : Frame) → n ≤ m → FrameStands f known n r → FrameStands f known m r
frame-deeper f known n m r le s = record { count = s.count; rows = s.rows; environment_stands = stands-deeper f known n m r.environment le s.environment_stands }

same-kids : (f : Meanings) (ws : List Waiting) (o : Op) (j : ℕ) (ks : List ℕ) → opened_trees f ws o j ks ≡ kid_trees f ws o j ks
same-kids f ws o j [] = refl
same-kids f ws o j (k ∷ ks) = ap (λ ts. tree_of (under (f k) (delays f (deepened (binds_of o j) ws))) ∷ ts) (same-kids f ws o (suc j) ks)

pub is-frame : (f : Meanings) (known : List (List Waiting)) (t : Tree) (r : Frame) → option_and_then (made r.op) (all_there (kid_things f (listed known r.environment) r.op 0 r.kids.now)) ≡ Some (ATree t) → IsFrame f known t r
is-frame f known t r e =
    let m = made_over f (listed known r.environment) r.op r.kids.now t e in
    record {
      count = m.count;
      rows = m.rows;
      whole = m.whole ∙ ap (λ ts. Make r.op (trees_of ts)) (same-kids f (listed known r.environment) r.op 0 r.kids.now);
    }

pub frame-stands : (f : Meanings) (known : List (List Waiting)) (n : ℕ) (t : Tree) (r : Frame) → IsFrame f known t r → Stands f known n r.environment → FrameStands f known n r
frame-stands f known n t r is stands = record { count = is.count; rows = is.rows; environment_stands = stands }

weights-are : (ts : List Tree) → weights (trees_of ts) ≡ all_weights ts
weights-are [] = refl
weights-are (t ∷ ts) = ap (λ n. suc (weight t) + n) (weights-are ts)

pub weight-some : (t : Tree) → 0 < weight t
weight-some (Var k) = omega arith
weight-some (Make o ts) = omega arith

pub frame-weight : (f : Meanings) (known : List (List Waiting)) (t : Tree) (r : Frame) → IsFrame f known t r → weight t ≡ suc (all_weights (frame_trees f known r))
frame-weight f known t r is = ap weight is.whole ∙ ap suc (weights-are (frame_trees f known r))

drop-length : {X : Type 0} (xs ys : List X) (n : ℕ) → length xs ≡ n → drop n (xs ++ ys) ≡ ys
drop-length [] ys zero e = refl
drop-length [] ys (suc n) e = absurd (omega arith)
drop-length (x ∷ xs) ys zero e = absurd (omega arith)
drop-length (x ∷ xs) ys (suc n) e = drop-length xs ys n (omega arith)

first-same : (t u : Tree) (ts us : List Tree) → t ∷ ts ≡ u ∷ us → t ≡ u
first-same t u ts us e = cc

pub is-kid-at : (f : Meanings) (known : List (List Waiting)) (m : ℕ) (r : Frame) (at : ℕ) (c : Closure)
    → FrameStands f known m r → at < kids_of r.op → c.row.0 ≡ get_or r.kids.now at 0
    → listed known c.environment ≡ deepened (binds_of r.op at) (listed known r.environment) → IsWithin known c.environment
    → IsKidAt f known r at c
is-kid-at f known m r at c stands place row list within =
    let ws = listed known r.environment in
    let count = stands.count in
    let b = binds_of-most r.op at in
    let kids = drop-kid f ws r.op 0 r.kids.now at at (omega arith) (omega arith) in
    let meant : tree_in f known c ≡ tree_of (under (f (get_or r.kids.now at 0)) (delays f (deepened (binds_of r.op at) ws))) = ap₂ (λ j vs. tree_of (under (f j) (delays f vs))) row list in
    let is : IsTree (f c.row.0) = subst (λ j. IsTree (f j)) (sym row) (stands.rows at 0 (omega arith)) in
    let deep : (n : ℕ) → Stands f known n r.environment → IsClosure f known (n + binds_of r.op at) c = λ n env. kid-stands f known n (binds_of r.op at) c.row.0 r.environment c is env refl list within in
    record {
      tree = λ before after t long whole.
          meant ∙ first-same _ t _ after (sym kids ∙ ap (drop at) whole ∙ drop-length before (t ∷ after) at long);
      stands = λ n env. closure-deeper f known (n + binds_of r.op at) (suc n) c (omega arith) (deep n env);
      same = λ n env none. closure-deeper f known (n + binds_of r.op at) n c (omega arith) (deep n env);
    }

-- nodes that are added

pub trees-grow : (f : Meanings) (known new : List (List Waiting)) (n : ℕ) (r : Frame) → Grows known new → FrameStands f known n r → frame_trees f new r ≡ frame_trees f known r
trees-grow f known new n r g s = ap (λ ws. kid_trees f ws r.op 0 r.kids.now) (listed-grows known new r.environment g s.environment_stands.within)

pub tree-grows : (f : Meanings) (known new : List (List Waiting)) (n : ℕ) (c : Closure) → Grows known new → IsClosure f known n c → tree_in f new c ≡ tree_in f known c
tree-grows f known new n c g stands = ap tree_of (closure_meaning-grows f known new c g stands.environment.within)
