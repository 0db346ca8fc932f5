-- Lists that grow by one item for each row.
use Rattle.std.proofs.Common.{◌≡◌, ℕ, zero, suc, ◌+◌, ◌<◌, ◌≤◌, ◌⊎◌, inl, inr, drop, List, [], ◌∷◌, ◌++◌, length, take, refl, sym, ◌∙◌, ap, arith, Some, append_assoc, length-append}
use Rattle.std.specs.Prelude.{slice_get, sum_by}
use Rattle.std.proofs.lemmas.List.{append-nil, drop-take, take-take}
use Rattle.std.proofs.lemmas.List.Sums.{sum_by-cons}
use Rattle.rows.specs.Tables.{built_after, built, Grows}

-- a list's prefix keeps its places
pub slice_get-prefix : {X : Type 0} (xs ys : List X) (k : ℕ) (x : X) → slice_get xs k ≡ Some x → slice_get (xs ++ ys) k ≡ Some x
slice_get-prefix [] ys k x e = cc
slice_get-prefix (y ∷ xs) ys zero x e = e
slice_get-prefix (y ∷ xs) ys (suc k) x e = slice_get-prefix xs ys k x e

pub slice_get-next : {X : Type 0} (xs ys : List X) (x : X) → slice_get (xs ++ x ∷ ys) (length xs) ≡ Some x
slice_get-next [] ys x = refl
slice_get-next (y ∷ xs) ys x = slice_get-next xs ys x

pub take-prefix : {X : Type 0} (xs ys : List X) → take (length xs) (xs ++ ys) ≡ xs
take-prefix [] ys = refl
take-prefix (x ∷ xs) ys = ap (λ zs. x ∷ zs) (take-prefix xs ys)

-- the items that are known are a prefix of what is built
pub record After {R X : Type 0} (make : List X → R → X) (known : List X) (rows : List R) : Type 0 where
  pub more : List X
  pub split : built_after make known rows ≡ known ++ more
  pub count : length more ≡ length rows

pub after : {R X : Type 0} (make : List X → R → X) (known : List X) (rows : List R) → After make known rows
after make known [] = record { more = []; split = sym (append-nil known); count = refl }
after make known (row ∷ rows) =
    let x = make known row in
    let b = after make (known ++ x ∷ []) rows in
    record { more = x ∷ b.more; split = b.split ∙ append_assoc known (x ∷ []) b.more; count = ap suc b.count }

pub length-built : {R X : Type 0} (make : List X → R → X) (rows : List R) → length (built make rows) ≡ length rows
length-built make rows = let b = after make [] rows in ap length b.split ∙ b.count

pub built_after-push : {R X : Type 0} (make : List X → R → X) (known : List X) (rows : List R) (row : R) → built_after make known (rows ++ row ∷ []) ≡ built_after make known rows ++ make (built_after make known rows) row ∷ []
built_after-push make known [] row = refl
built_after-push make known (r ∷ rows) row = built_after-push make (known ++ make known r ∷ []) rows row

-- one row more is one item more
pub built-push : {R X : Type 0} (make : List X → R → X) (rows : List R) (row : R) → built make (rows ++ row ∷ []) ≡ built make rows ++ make (built make rows) row ∷ []
built-push make rows row = built_after-push make [] rows row

-- the item of a row is made of those before it
built_after-at : {R X : Type 0} (make : List X → R → X) (known : List X) (rows : List R) (k j : ℕ) (row : R) → j ≡ length known + k → slice_get rows k ≡ Some row → slice_get (built_after make known rows) j ≡ Some (make (take j (built_after make known rows)) row)
built_after-at make known [] k j row e at = cc
built_after-at make known (r ∷ rows) zero j row e at =
    let same : r ≡ row = cc in
    let b = after make (known ++ make known r ∷ []) rows in
    let whole : built_after make known (r ∷ rows) ≡ known ++ make known r ∷ b.more = b.split ∙ append_assoc known (make known r ∷ []) b.more in
    let place : j ≡ length known = omega arith in
    rw (whole, place, slice_get-next known b.more (make known r), take-prefix known (make known r ∷ b.more), same) refl
built_after-at make known (r ∷ rows) (suc k) j row e at =
    let place : j ≡ length (known ++ make known r ∷ []) + k = rw length-append (omega arith) in
    built_after-at make (known ++ make known r ∷ []) rows k j row place at

pub built-at : {R X : Type 0} (make : List X → R → X) (rows : List R) (k : ℕ) (row : R) → slice_get rows k ≡ Some row → slice_get (built make rows) k ≡ Some (make (take k (built make rows)) row)
built-at make rows k row at = built_after-at make [] rows k k row (omega arith) at

pub grows-same : {X : Type 0} (xs : List X) → Grows xs xs
grows-same xs = ([], sym (append-nil xs))

pub grows-grows : {X : Type 0} (xs ys zs : List X) → Grows xs ys → Grows ys zs → Grows xs zs
grows-grows xs ys zs g h = (g.0 ++ h.0, h.1 ∙ ap (λ us. us ++ h.0) g.1 ∙ append_assoc xs g.0 h.0)

-- two tables over the same rows, which make the same of each
built_after-same : {R X : Type 0} (make make' : List X → R → X) (known : List X) (rows : List R) → ((k : ℕ) (row : R) → slice_get rows k ≡ Some row → (xs : List X) → make xs row ≡ make' xs row) → built_after make known rows ≡ built_after make' known rows
built_after-same make make' known [] same = refl
built_after-same make make' known (row ∷ rows) same =
    ap (λ x. built_after make (known ++ x ∷ []) rows) (same 0 row refl known)
    ∙ built_after-same make make' (known ++ make' known row ∷ []) rows (λ k r at. same (suc k) r at)

pub built-same : {R X : Type 0} (make make' : List X → R → X) (rows : List R) → ((k : ℕ) (row : R) → slice_get rows k ≡ Some row → (xs : List X) → make xs row ≡ make' xs row) → built make rows ≡ built make' rows
built-same make make' rows same = built_after-same make make' [] rows same

-- what stands in a prefix stands there in the whole, and before the prefix's end
pub slice_get-take : {X : Type 0} (n : ℕ) (xs : List X) (k : ℕ) (x : X) → slice_get (take n xs) k ≡ Some x → (k < n) × (slice_get xs k ≡ Some x)
slice_get-take zero xs k x e = cc
slice_get-take (suc n) [] k x e = cc
slice_get-take (suc n) (y ∷ xs) zero x e = (omega arith, e)
slice_get-take (suc n) (y ∷ xs) (suc k) x e = let b = slice_get-take n xs k x e in (omega (arith, b.0), b.1)

-- what stands in a list with one more item
pub slice_get-push : {X : Type 0} (xs : List X) (y : X) (k : ℕ) (x : X) → slice_get (xs ++ y ∷ []) k ≡ Some x → ((k < length xs) × (slice_get xs k ≡ Some x)) ⊎ ((k ≡ length xs) × (y ≡ x))
slice_get-push [] y zero x e = inr (refl, cc)
slice_get-push [] y (suc k) x e = cc
slice_get-push (z ∷ xs) y zero x e = inl (omega arith, e)
slice_get-push (z ∷ xs) y (suc k) x e =
    elim (slice_get-push xs y k x e) [
      | inl h ↦ inl (omega (arith, h.0), h.1)
      | inr h ↦ inr (ap suc h.0, h.1)
    ]

-- what a row counts stands in the count of all, after that of the rows before it
pub sum_by-at : {R : Type 0} (f : R → ℕ) (rows : List R) (k : ℕ) (row : R) → slice_get rows k ≡ Some row → sum_by f (take k rows) + f row ≤ sum_by f rows
sum_by-at f [] k row e = cc
sum_by-at f (r ∷ rows) zero row e =
    let is : r ≡ row = cc in
    let same = ap f is in
    let whole = sum_by-cons f r rows in
    omega arith
sum_by-at f (r ∷ rows) (suc k) row e =
    let h = sum_by-at f rows k row e in
    let part = sum_by-cons f r (take k rows) in
    let whole = sum_by-cons f r rows in
    omega arith

-- lists with one prefix have the same parts within it
pub part-same : {X : Type 0} (n at count : ℕ) (xs ys : List X) → at + count ≤ n → take n xs ≡ take n ys → take count (drop at xs) ≡ take count (drop at ys)
part-same n at count xs ys within same =
    sym (drop-take at count xs)
    ∙ ap (drop at) (sym (take-take (at + count) n xs within) ∙ ap (take (at + count)) same ∙ take-take (at + count) n ys within)
    ∙ drop-take at count ys

pub slice_get-same : {X : Type 0} (n k : ℕ) (xs ys : List X) → k < n → take n xs ≡ take n ys → slice_get xs k ≡ slice_get ys k
slice_get-same n k xs ys within same = sym (in_prefix n k xs within) ∙ ap (λ zs. slice_get zs k) same ∙ in_prefix n k ys within
  where
    in_prefix : {X : Type 0} (n k : ℕ) (xs : List X) → k < n → slice_get (take n xs) k ≡ slice_get xs k
    in_prefix zero k xs lt = absurd (omega arith)
    in_prefix (suc n) k [] lt = refl
    in_prefix (suc n) zero (x ∷ xs) lt = refl
    in_prefix (suc n) (suc k) (x ∷ xs) lt = in_prefix n k xs (omega arith)
