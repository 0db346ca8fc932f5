-- What rows mean that mean trees.
use Rattle.std.proofs.Common.{◌≡◌, ◌==◌, ◌<◌, ◌≤◌, ◌+◌, ℕ, zero, suc, true, List, [], ◌∷◌, ◌++◌, map, length, get_or, take, drop, Option, Some, IsSome, refl, sym, ap, ap₂, ◌∙◌, arith}
use Rattle.std.specs.Prelude.{option_and_then}
use Rattle.std.proofs.lemmas.List.{take_all}
use Rattle.trees.specs.declared.op.Op.{Op}
use Rattle.trees.specs.Operators.{kids_of}
use Rattle.trees.specs.Trees.{Tree, Var, Make, trees_of, apply, shift_by}
use Rattle.trees.specs.Things.{ATree, Meanings, Kept, both, consed, meanings, made, only_trees}
use Rattle.trees.proofs.Meanings.{meanings-cons, meanings-kept, meanings-push, kept-kept}
use Rattle.substitution.proofs.ThenLaws.{apply-id}
use Rattle.rows.specs.Views.{IsTree}
use Rattle.form_rows.specs.Meant.{Is, Are, AreTrees}

pub kept_then : {f g h : Meanings} → Kept f g → Kept g h → Kept f h
kept_then {f} {g} {h} a b = kept-kept f g h a b

pub is_kept : {f g : Meanings} {row : ℕ} {t : Tree} → Kept f g → Is f row t → Is g row t
is_kept k h = record { is = k.keeps _ _ h.is }

pub tree_kept : (f g : Meanings) (row : ℕ) → Kept f g → IsTree (f row) → IsTree (g row)
tree_kept f g row k h = (h.0, k.keeps row (ATree h.0) h.1)

pub are_kept : {f g : Meanings} {rows : List ℕ} {ts : List Tree} → Kept f g → Are f rows ts → Are g rows ts
are_kept {f} {g} {rows} {ts} k h = record { are = meanings-kept f g k rows (map ATree ts) h.are }

pub trees_kept : (f g : Meanings) (rows : List ℕ) → Kept f g → AreTrees f rows → AreTrees g rows
trees_kept f g rows k h = (h.0, are_kept k h.1)

pub are_none : (f : Meanings) → Are f [] []
are_none f = record { are = refl }

pub are_more : {f : Meanings} {row : ℕ} {rows : List ℕ} {t : Tree} {ts : List Tree} → Is f row t → Are f rows ts → Are f (row ∷ rows) (t ∷ ts)
are_more a b = record { are = ap₂ (both consed) a.is b.are }

only_trees_map : (ts : List Tree) → only_trees (map ATree ts) ≡ Some ts
only_trees_map [] = refl
only_trees_map (t ∷ ts) = ap (option_and_then (λ us. Some (t ∷ us))) (only_trees_map ts)

same_number : (n : ℕ) → (n == n) ≡ true
same_number n = grind arith

-- the operator over rows that mean as many trees as it takes
pub made_rows : {f : Meanings} {rows : List ℕ} {ts : List Tree} (op : Op) → length ts ≡ kids_of op → Are f rows ts → option_and_then (made op) (meanings f rows) ≡ Some (ATree (Make op (trees_of ts)))
made_rows {f} {rows} {ts} op e a =
    rw (a.are, only_trees_map ts, e, same_number (kids_of op)) refl

pub are_one : {f : Meanings} {a : ℕ} {t : Tree} → Is f a t → Are f (a ∷ []) (t ∷ [])
are_one {f} h = are_more h (are_none f)

pub are_two : {f : Meanings} {a b : ℕ} {t u : Tree} → Is f a t → Is f b u → Are f (a ∷ b ∷ []) (t ∷ u ∷ [])
are_two h i = are_more h (are_one i)

pub are_three : {f : Meanings} {a b c : ℕ} {t u v : Tree} → Is f a t → Is f b u → Is f c v → Are f (a ∷ b ∷ c ∷ []) (t ∷ u ∷ v ∷ [])
are_three h i j = are_more h (are_two i j)

pub are_four : {f : Meanings} {a b c d : ℕ} {t u v w : Tree} → Is f a t → Is f b u → Is f c v → Is f d w → Are f (a ∷ b ∷ c ∷ d ∷ []) (t ∷ u ∷ v ∷ w ∷ [])
are_four h i j k = are_more h (are_three i j k)

-- a row that is made of rows that mean trees
pub is_made : {f g : Meanings} {rows : List ℕ} {ts : List Tree} {r : ℕ} (op : Op) → length ts ≡ kids_of op → Are f rows ts
    → g r ≡ option_and_then (made op) (meanings f rows) → Is g r (Make op (trees_of ts))
is_made op n a e = record { is = e ∙ made_rows op n a }

pub some_is : {A : Type 0} {o : Option A} {x : A} → o ≡ Some x → IsSome o
some_is e = rw e refl

pub is_of : (f : Meanings) (row : ℕ) (h : IsTree (f row)) → Is f row h.0
is_of f row h = record { is = h.1 }

pub tree_of_is : (f : Meanings) (row : ℕ) {t : Tree} → Is f row t → IsTree (f row)
tree_of_is f row {t = t} h = (t, h.is)

pub may_make : {f : Meanings} {rows : List ℕ} {ts : List Tree} (op : Op) → length ts ≡ kids_of op → Are f rows ts → IsSome (option_and_then (made op) (meanings f rows))
may_make op n a = some_is (made_rows op n a)

pub one_fits : (f : Meanings) (a : ℕ) (op : Op) → kids_of op ≡ 1 → IsTree (f a) → IsSome (option_and_then (made op) (meanings f (a ∷ [])))
one_fits f a op e h = may_make op (sym e) (are_one (is_of f a h))

pub two_fit : (f : Meanings) (a b : ℕ) (op : Op) → kids_of op ≡ 2 → IsTree (f a) → IsTree (f b) → IsSome (option_and_then (made op) (meanings f (a ∷ b ∷ [])))
two_fit f a b op e h i = may_make op (sym e) (are_two (is_of f a h) (is_of f b i))

pub four_fit : (f : Meanings) (a b c d : ℕ) (op : Op) → kids_of op ≡ 4 → IsTree (f a) → IsTree (f b) → IsTree (f c) → IsTree (f d)
    → IsSome (option_and_then (made op) (meanings f (a ∷ b ∷ c ∷ d ∷ [])))
four_fit f a b c d op e h i j k = may_make op (sym e) (are_four (is_of f a h) (is_of f b i) (is_of f c j) (is_of f d k))

-- the first of the rows, and the others

pub are_parts : (f : Meanings) (r : ℕ) (rs : List ℕ) (t : Tree) (ts : List Tree) → Are f (r ∷ rs) (t ∷ ts) → Is f r t × Are f rs ts
are_parts f r rs t ts a =
    let m = meanings-cons f r rs (map ATree (t ∷ ts)) a.are in
    let w = m.whole in
    let first : m.first ≡ ATree t = cc in
    let rest : m.rest ≡ map ATree ts = cc in
    (record { is = m.first_is ∙ ap Some first }, record { are = m.rest_is ∙ ap Some rest })

some_same : {A : Type 0} {x y : A} → Some x ≡ Some y → x ≡ y
some_same e = cc

no_more : {A : Type 0} {x : A} {xs : List A} → [] ≡ x ∷ xs → ⊥
no_more e = cc

length_of : (f : Meanings) (rows : List ℕ) (ts : List Tree) → Are f rows ts → length ts ≡ length rows
length_of f [] [] a = refl
length_of f [] (t ∷ ts) a = absurd (no_more (some_same a.are))
length_of f (r ∷ rs) [] a = absurd (no_more (meanings-cons f r rs [] a.are).whole)
length_of f (r ∷ rs) (t ∷ ts) a = ap suc (length_of f rs ts (are_parts f r rs t ts a).1)

pub are_length : {f : Meanings} {rows : List ℕ} {ts : List Tree} → Are f rows ts → length ts ≡ length rows
are_length {f} {rows} {ts} a = length_of f rows ts a

pub are_at : (f : Meanings) (rows : List ℕ) (ts : List Tree) (k : ℕ) (d : Tree) → Are f rows ts → k < length rows → Is f (get_or rows k 0) (get_or ts k d)
are_at f [] ts k d a lt = absurd (omega arith)
are_at f (r ∷ rs) [] k d a lt = absurd (no_more (meanings-cons f r rs [] a.are).whole)
are_at f (r ∷ rs) (t ∷ ts) zero d a lt = (are_parts f r rs t ts a).0
are_at f (r ∷ rs) (t ∷ ts) (suc k) d a lt = are_at f rs ts k d (are_parts f r rs t ts a).1 (omega arith)

pub tree_at : (f : Meanings) (rows : List ℕ) (k : ℕ) → AreTrees f rows → k < length rows → IsTree (f (get_or rows k 0))
tree_at f rows k h lt = tree_of_is f (get_or rows k 0) (are_at f rows h.0 k (Var 0) h.1 lt)

pub drop_next : {A : Type 0} (ts : List A) (k : ℕ) (d : A) → k < length ts → drop k ts ≡ get_or ts k d ∷ drop (suc k) ts
drop_next [] k d lt = absurd (omega arith)
drop_next (t ∷ ts) zero d lt = refl
drop_next (t ∷ ts) (suc k) d lt = drop_next ts k d (omega arith)

pub drop_whole : {A : Type 0} (ts : List A) (k : ℕ) → length ts ≡ k → drop k ts ≡ []
drop_whole [] zero e = refl
drop_whole [] (suc k) e = refl
drop_whole (t ∷ ts) zero e = absurd (omega arith)
drop_whole (t ∷ ts) (suc k) e = drop_whole ts k (omega arith)

-- weakened by none
pub lifted_none : {f : Meanings} {row : ℕ} (n : ℕ) (t : Tree) → n ≡ 0 → Is f row t → Is f row (apply t (shift_by n))
lifted_none n t e h = record { is = h.is ∙ ap (λ u. Some (ATree u)) (sym (rw e (apply-id t))) }

-- rows that were made before one more

pub are_push : {f : Meanings} {rows : List ℕ} {ts : List Tree} {r : ℕ} {t : Tree} → Are f rows ts → Is f r t → Are f (rows ++ r ∷ []) (ts ++ t ∷ [])
are_push {f} {rows} {ts} {r} {t} a h = record { are = meanings-push f rows (map ATree ts) r (ATree t) a.are h.is ∙ ap Some (sym (map_push ts)) }
  where
    map_push : (us : List Tree) → map ATree (us ++ t ∷ []) ≡ map ATree us ++ ATree t ∷ []
    map_push [] = refl
    map_push (u ∷ us) = ap (λ xs. ATree u ∷ xs) (map_push us)

pub take_next : {A : Type 0} (xs : List A) (k : ℕ) (d : A) → k < length xs → take (k + 1) xs ≡ take k xs ++ get_or xs k d ∷ []
take_next [] k d lt = absurd (omega arith)
take_next (x ∷ xs) zero d lt = refl
take_next (x ∷ xs) (suc k) d lt = let e : suc k + 1 ≡ suc (k + 1) = omega arith in rw e (ap (λ ys. x ∷ ys) (take_next xs k d (omega arith)))

pub take_whole : {A : Type 0} (xs : List A) (k : ℕ) → length xs ≤ k → take k xs ≡ xs
take_whole xs k h = take_all k xs h

-- the first of the rows

are_take : (f : Meanings) (k : ℕ) (rows : List ℕ) (ts : List Tree) → Are f rows ts → Are f (take k rows) (take k ts)
are_take f zero rows ts a = are_none f
are_take f (suc k) [] [] a = are_none f
are_take f (suc k) [] (t ∷ ts) a = absurd (no_more (some_same a.are))
are_take f (suc k) (r ∷ rs) [] a = absurd (no_more (meanings-cons f r rs [] a.are).whole)
are_take f (suc k) (r ∷ rs) (t ∷ ts) a = let h = are_parts f r rs t ts a in are_more h.0 (are_take f k rs ts h.1)

pub first_are : {f : Meanings} {rows : List ℕ} {ts : List Tree} (k : ℕ) → Are f rows ts → Are f (take k rows) (take k ts)
first_are {f} {rows} {ts} k a = are_take f k rows ts a
