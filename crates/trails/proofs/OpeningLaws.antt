-- What trees are opened to.
use Rattle.std.proofs.Common.{◌≡◌, ◌≤◌, ◌<◌, ◌+◌, ◌⊎◌, inl, inr, ◌++◌, below_more, ℕ, zero, suc, Some, None, List, [], ◌∷◌, length, refl, sym, ◌∙◌, ap, subst, arith}
use Rattle.std.specs.Prelude.{slice_get, option_and_then, option_map}
use Rattle.trees.specs.declared.op.Op.{Op}
use Rattle.trees.specs.Operators.{binds_of}
use Rattle.trees.specs.Trees.{Tree, Trees, NoTrees, More, Subst, Var, trees_of, count_of, apply, apply_under, apply_kids, id, shift_by, then}
use Rattle.std.proofs.lemmas.Option.{slice_get_past}
use Rattle.trees.specs.Things.{Thing, ATree, ASubst, AContext, Meanings, Kept, meanings, only_trees, over_kids, made}
use Rattle.trees.proofs.Meanings.{meanings-cons}
use Rattle.substitution.specs.Action.{look}
use Rattle.substitution.specs.Delayed.{kid_at}
use Rattle.substitution.proofs.Closures.{closed-id}
use Rattle.substitution.proofs.ThenLaws.{apply-id, apply-then, look-then}
use Rattle.rows.proofs.OptionLaws.{one-some}
use Rattle.rows.proofs.MeaningLaws.{over_kids-is}
use Rattle.trails.specs.Openings.{RowAt, AreRows, IsOver, IsMet, IsInstance}

-- an operator that is read

rows-are : (f : Meanings) (ks : List ℕ) (xs : List Thing) (ts : List Tree) → meanings f ks ≡ Some xs → only_trees xs ≡ Some ts → (i : ℕ) → RowAt f (slice_get ks i) (kid_at (trees_of ts) i)
rows-are f [] xs [] e all i = tt
rows-are f [] [] (t ∷ ts) e all i = cc
rows-are f [] (x ∷ xs) (t ∷ ts) e all i = cc
rows-are f (k ∷ ks) xs ts e all i =
    let m = meanings-cons f k ks xs e in
    from m.first m.rest m.first_is (ap only_trees (sym m.whole) ∙ all) (λ us later. rows-are f ks m.rest us m.rest_is later) i
  where
    from : (x : Thing) (rest : List Thing) → f k ≡ Some x → only_trees (x ∷ rest) ≡ Some ts → ((us : List Tree) → only_trees rest ≡ Some us → (j : ℕ) → RowAt f (slice_get ks j) (kid_at (trees_of us) j)) → (i : ℕ) → RowAt f (slice_get (k ∷ ks) i) (kid_at (trees_of ts) i)
    from (ATree t) rest is trees later i =
        let o = one-some (λ us. Some (t ∷ us)) (only_trees rest) ts trees in
        let whole : t ∷ o.first ≡ ts = cc in
        subst (λ us. RowAt f (slice_get (k ∷ ks) i) (kid_at (trees_of us) i)) whole (at i o.first (later o.first o.first_is))
      where
        at : (i : ℕ) (us : List Tree) → ((j : ℕ) → RowAt f (slice_get ks j) (kid_at (trees_of us) j)) → RowAt f (slice_get (k ∷ ks) i) (kid_at (trees_of (t ∷ us)) i)
        at zero us rows = is
        at (suc j) us rows = rows j
    from (ASubst d) rest is trees later i = cc
    from (AContext G) rest is trees later i = cc

count-trees_of : (ts : List Tree) → count_of (trees_of ts) ≡ length ts
count-trees_of [] = refl
count-trees_of (t ∷ ts) = ap suc (count-trees_of ts)

pub made-over : (f : Meanings) (op : Op) (ks : List ℕ) (t : Tree) → option_and_then (made op) (meanings f ks) ≡ Some (ATree t) → IsOver f op ks t
made-over f op ks t e =
    let o = one-some (made op) (meanings f ks) (ATree t) e in
    let u = one-some (over_kids op) (only_trees o.first) (ATree t) o.whole in
    let is = over_kids-is op u.first (ATree t) u.whole in
    let same = is.1 in
    record {
      kids = trees_of u.first;
      made = cc;
      are = record { each = rows-are f ks o.first u.first o.first_is u.first_is };
      count = count-trees_of u.first ∙ is.0;
    }

-- kids under a substitution

pub kid_at-applied : (ts : Trees) (op : Op) (at k : ℕ) (d : Subst) → kid_at (apply_kids ts op at 0 d) k ≡ option_map (λ t. apply_under t (binds_of op (at + k)) d) (kid_at ts k)
kid_at-applied NoTrees op at k d = refl
kid_at-applied (More t rest) op at zero d =
    let n : 0 + binds_of op at ≡ binds_of op at = omega arith in
    let j : at ≡ at + 0 = omega arith in
    ap (λ n. Some (apply_under t n d)) (n ∙ ap (binds_of op) j)
kid_at-applied (More t rest) op at (suc k) d =
    let j : suc at + k ≡ at + suc k = omega arith in
    kid_at-applied rest op (suc at) k d ∙ ap (λ j. option_map (λ t. apply_under t (binds_of op j) d) (kid_at rest k)) j

pub count-applied : (ts : Trees) (op : Op) (at : ℕ) (d : Subst) → count_of (apply_kids ts op at 0 d) ≡ count_of ts
count-applied NoTrees op at d = refl
count-applied (More t rest) op at d = ap suc (count-applied rest op (suc at) d)

pub kid_at-past : (ts : Trees) (k : ℕ) → count_of ts ≤ k → kid_at ts k ≡ None
kid_at-past NoTrees k l = refl
kid_at-past (More t rest) zero l = absurd (omega arith)
kid_at-past (More t rest) (suc k) l = kid_at-past rest k (omega arith)

-- what a variable becomes

pub met-shift : (f : Meanings) (by k index next : ℕ) (d e : Subst) → d ≡ shift_by by → index ≡ k + by → f next ≡ Some (ASubst e) → IsMet f index next None (apply (look d k) e)
met-shift f by k index next d e is moved rest = record {
  first = e;
  second = id;
  sub_is = rest;
  rest_is = refl;
  whole = ap (λ s. apply (look s k) e) is ∙ ap (look e) (sym moved) ∙ sym (apply-id (look e index));
}

pub met-then : (f : Meanings) (k first rest : ℕ) (d a b e : Subst) → d ≡ then a b → f first ≡ Some (ASubst a) → f rest ≡ Some (ASubst (then b e)) → IsMet f k first (Some rest) (apply (look d k) e)
met-then f k first rest d a b e is first_is rest_is = record {
  first = a;
  second = then b e;
  sub_is = first_is;
  rest_is = rest_is;
  whole = ap (λ s. apply (look s k) e) is ∙ ap (λ t. apply t e) (look-then a b k) ∙ sym (apply-then (look a k) b e);
}

pub met-first : (f : Meanings) (k sub : ℕ) (t : Tree) (d : Subst) → t ≡ Var k → f sub ≡ Some (ASubst d) → IsMet f k sub None (apply t d)
met-first f k sub t d is sub_is = record {
  first = d;
  second = id;
  sub_is = sub_is;
  rest_is = refl;
  whole = ap (λ u. apply u d) is ∙ sym (apply-id (look d k));
}

-- what a tree is under a substitution

pub itself : (f : Meanings) (row : ℕ) (t : Tree) → f row ≡ Some (ATree t) → IsInstance f row None t
itself f row t is = record { tree = t; subst = id; row_is = is; sub_is = refl; whole = sym (apply-id t) }

pub instance-then : (f g : Meanings) → Kept f g → (below first sub : ℕ) (t : Tree) (d : Subst) (i : IsInstance f below (Some first) t) → ((e : Subst) → f first ≡ Some (ASubst e) → g sub ≡ Some (ASubst (then e d))) → IsInstance g below (Some sub) (apply t d)
instance-then f g kept below first sub t d i is = record {
  tree = i.tree;
  subst = then i.subst d;
  row_is = kept.keeps below (ATree i.tree) i.row_is;
  sub_is = is i.subst i.sub_is;
  whole = ap (λ u. apply u d) i.whole ∙ sym (apply-then i.tree i.subst d);
}

-- the rows of kids, one after the other

got-before : (xs ys : List ℕ) (k : ℕ) → k < length xs → slice_get (xs ++ ys) k ≡ slice_get xs k
got-before [] ys k l = absurd (omega arith)
got-before (x ∷ xs) ys zero l = refl
got-before (x ∷ xs) ys (suc k) l = got-before xs ys k (omega arith)

got-last : (xs : List ℕ) (x : ℕ) → slice_get (xs ++ x ∷ []) (length xs) ≡ Some x
got-last [] x = refl
got-last (y ∷ xs) x = got-last xs x

pub rows-more : (f : Meanings) (rows : List ℕ) (row at : ℕ) (us : Trees) → length rows ≡ at → ((k : ℕ) → k < at → RowAt f (slice_get rows k) (kid_at us k)) → RowAt f (Some row) (kid_at us at) → (k : ℕ) → k < at + 1 → RowAt f (slice_get (rows ++ row ∷ []) k) (kid_at us k)
rows-more f rows row at us count so_far last =
    below_more (λ k. RowAt f (slice_get (rows ++ row ∷ []) k) (kid_at us k)) at
    (λ k l. subst (λ o. RowAt f o (kid_at us k)) (sym (got-before rows (row ∷ []) k (omega arith))) (so_far k l))
    (subst (λ o. RowAt f o (kid_at us at)) (sym (subst (λ n. slice_get (rows ++ row ∷ []) n ≡ Some row) count (got-last rows row))) last)

below_or_above : (k n : ℕ) → (k < n) ⊎ (n ≤ k)
below_or_above zero zero = inr (omega arith)
below_or_above zero (suc n) = inl (omega arith)
below_or_above (suc k) zero = inr (omega arith)
below_or_above (suc k) (suc n) = from (below_or_above k n)
  where
    from : (k < n) ⊎ (n ≤ k) → (suc k < suc n) ⊎ (suc n ≤ suc k)
    from (inl l) = inl (omega arith)
    from (inr l) = inr (omega arith)

pub rows-all : (f : Meanings) (rows : List ℕ) (n : ℕ) (us : Trees) → length rows ≡ n → count_of us ≡ n → ((k : ℕ) → k < n → RowAt f (slice_get rows k) (kid_at us k)) → AreRows f rows us
rows-all f rows n us count same all = record { each = λ k. from k (below_or_above k n) }
  where
    from : (k : ℕ) → (k < n) ⊎ (n ≤ k) → RowAt f (slice_get rows k) (kid_at us k)
    from k (inl l) = all k l
    from k (inr l) = rw (slice_get_past rows k (omega arith), kid_at-past us k (omega arith)) tt

pub apply_under-id : (t : Tree) (n : ℕ) → apply_under t n id ≡ t
apply_under-id t n = closed-id t n []

pub kid-applied : (ts : Trees) (op : Op) (k : ℕ) (d : Subst) (t : Tree) → kid_at ts k ≡ Some t → kid_at (apply_kids ts op 0 0 d) k ≡ Some (apply_under t (binds_of op k) d)
kid-applied ts op k d t there =
    let j : 0 + k ≡ k = omega arith in
    kid_at-applied ts op 0 k d ∙ ap (λ j. option_map (λ t. apply_under t (binds_of op j) d) (kid_at ts k)) j ∙ ap (option_map (λ t. apply_under t (binds_of op k) d)) there
