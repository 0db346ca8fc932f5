-- What the rows of a book become is right, and means what they do.
use Rattle.std.proofs.Common.{◌≡◌, ℕ, zero, suc, ◌+◌, ◌<◌, ◌≤◌, ◌⊎◌, inl, inr, nat_lt, Bool, true, false, cond, List, [], ◌∷◌, ◌++◌, length, refl, sym, ◌∙◌, ap, subst, arith, Some, None, length-append, append_assoc}
use Rattle.std.specs.Prelude.{slice_get}
use Rattle.std.specs.List.{All, flat_map}
use Rattle.std.proofs.lemmas.List.{append-nil}
use Rattle.std.proofs.lemmas.List.Elements.{All-nil, All-cons, All-append}
use borrow.Author.Tests.{ltb-true, ltb-false}
use Rattle.trees.specs.Things.{Thing, Meanings}
use Rattle.rows.specs.Tables.{built_after}
use Rattle.rows.proofs.TableLaws.{slice_get-next}
use Rattle.rules.specs.Shifts.{ShiftFits}
use Rattle.deriv_file.specs.declared.row.Row.{Row}
use Rattle.deriv_file.specs.declared.row.Row.TheVariants as row
use Rattle.deriv_file.specs.Spelling.{newest}
use Rattle.derivation.specs.Meanings.{Meaning, Nothing}
use Rattle.derivation.specs.Right.{RightRows}
use Rattle.derivation.proofs.PrefixLaws.{rows_whole}
use Rattle.interned.specs.Coding.{thing_coded}
use Rattle.book_writer.specs.Chains.{IsPlain, Chain, Spelt}
use Rattle.book_writer.specs.Spelling.{file_of, chain_in, chain_at, spelt_row, spelt_rows}
use Rattle.book_writer.proofs.RowLaws.{Placed, placed-kept, RowSpelt, row-spelt}

-- the meanings of rows before row k
abbrev pub below : ℕ → Meanings → Meanings
below k f j = cond (nat_lt j k) (f j) None

below-is : (k : ℕ) (f : Meanings) (j : ℕ) (x : Thing) → below k f j ≡ Some x → (j < k) × (f j ≡ Some x)
below-is k f j x e = from (nat_lt j k) refl e
  where
    from : (b : Bool) → nat_lt j k ≡ b → cond b (f j) None ≡ Some x → (j < k) × (f j ≡ Some x)
    from true is there = (ltb-true j k is, there)
    from false is there = cc

-- the words of row k say what it means, over rows before it
pub record IsThere (f : Meanings) (k : ℕ) (words : List ℕ) : Type 0 where
  pub thing : Thing
  pub is : f k ≡ Some thing
  pub means : thing_coded (below k f) words ≡ Some thing
  pub fits : ShiftFits thing

-- or there are none, where it is left out
abbrev pub IsLive : Meanings → ℕ → List ℕ → Type 0
IsLive f k words = IsThere f k words ⊎ ((words ≡ []) × (f k ≡ None))

pub right-length : (before : List Meaning) (rows : List Row) (all : List Meaning) → RightRows before rows all → length all ≡ length before + length rows
right-length before [] all right = omega (arith, ap length right)
right-length before (r ∷ rows) all right = omega (arith, right-length (before ++ right.0 ∷ []) rows all right.2, length-append before (right.0 ∷ []))

pub get-before : {X : Type 0} (xs more : List X) (k : ℕ) → k < length xs → slice_get (xs ++ more) k ≡ slice_get xs k
get-before [] more k lt = absurd (omega arith)
get-before (x ∷ xs) more zero lt = refl
get-before (x ∷ xs) more (suc k) lt = get-before xs more k (omega arith)

pub flat_map-append : {X Y : Type 0} (f : X → List Y) (xs ys : List X) → flat_map f (xs ++ ys) ≡ flat_map f xs ++ flat_map f ys
flat_map-append f [] ys = refl
flat_map-append f (x ∷ xs) ys = ap (λ zs. f x ++ zs) (flat_map-append f xs ys) ∙ sym (append_assoc (f x) (flat_map f xs) (flat_map f ys))

-- what holds before n, and there, holds up to it
pub up-to : (P : ℕ → Type 0) (n : ℕ) → ((k : ℕ) → k < n → P k) → P n → (k : ℕ) → k ≤ n → P k
up-to P n before here k le = from (nat_lt k n) refl
  where
    from : (b : Bool) → nat_lt k n ≡ b → P k
    from true is = before k (ltb-true k n is)
    from false is = let last : n ≡ k = omega (arith, ltb-false k n is) in subst P last here

-- rows of a book, and what they became
pub record RowsSpelt (f : Meanings) (known : List Spelt) : Type 0 where
  pub all : List Meaning
  pub right : RightRows [] (file_of known) all
  pub fit : All IsPlain (file_of known)
  pub placed : (k : ℕ) (x : Thing) → k < length known → f k ≡ Some x → Placed all (chain_at known k) x

none-spelt : (f : Meanings) → RowsSpelt f []
none-spelt f = record {
  all = Nothing ∷ [];
  right = (Nothing, refl, refl);
  fit = All-cons IsPlain (row.Header newest) [] refl (All-nil IsPlain);
  placed = λ k x lt e. absurd (omega arith);
}

file-push : (known : List Spelt) (s : Spelt) → file_of (known ++ s ∷ []) ≡ file_of known ++ s.rows
file-push known s =
    ap (λ rows. row.Header newest ∷ rows)
    (flat_map-append (λ (s : Spelt). s.rows) known (s ∷ []) ∙ ap (λ rows. flat_map (λ (s : Spelt). s.rows) known ++ rows) (append-nil s.rows))

chain-before : (known : List Spelt) (s : Spelt) (k : ℕ) → k < length known → chain_at (known ++ s ∷ []) k ≡ chain_at known k
chain-before known s k lt = ap chain_in (get-before known (s ∷ []) k lt)

chain-next : (known : List Spelt) (s : Spelt) → chain_at (known ++ s ∷ []) (length known) ≡ s.chain
chain-next known s = ap chain_in (slice_get-next known [] s)

one-there : (f : Meanings) (known : List Spelt) → RowsSpelt f known → (words : List ℕ) → IsThere f (length known) words → RowsSpelt f (known ++ spelt_row known words ∷ [])
one-there f known h words t =
    let n : ℕ = length known in
    let s : Spelt = spelt_row known words in
    let count : length h.all ≡ length (file_of known) = omega (arith, right-length [] (file_of known) h.all h.right) in
    let some : 0 < length h.all = omega (arith, count) in
    let are : (k : ℕ) (x : Thing) → below n f k ≡ Some x → Placed h.all (chain_at known k) x = λ k x e. let b = below-is n f k x e in h.placed k x b.0 b.1 in
    let r : RowSpelt h.all s t.thing = row-spelt h.all some known (below n f) are count words t.thing t.means t.fits in
    let all : List Meaning = h.all ++ r.added.more in
    let P : ℕ → Type 0 = λ k. (x : Thing) → f k ≡ Some x → Placed all (chain_at (known ++ s ∷ []) k) x in
    let old : (k : ℕ) → k < n → P k = λ k lt x e. subst (λ (c : Chain). Placed all c x) (sym (chain-before known s k lt)) (placed-kept h.all r.added.more (chain_at known k) x (h.placed k x lt e)) in
    let new : P n = λ x e.
    let is = t.is in
    let same : t.thing ≡ x = cc in
    subst (λ (c : Chain). Placed all c x) (sym (chain-next known s)) (subst (Placed all s.chain) same r.placed)
    in
    record {
      all = all;
      right = subst (λ rows. RightRows [] rows all) (sym (file-push known s)) (rows_whole [] (file_of known) s.rows h.all all h.right r.added.right);
      fit = subst (All IsPlain) (sym (file-push known s)) (All-append IsPlain (file_of known) s.rows h.fit r.added.fit);
      placed = λ k x lt e. up-to P n old new k (omega (arith, length-append known (s ∷ []))) x e;
    }

one-gone : (f : Meanings) (known : List Spelt) → RowsSpelt f known → f (length known) ≡ None → RowsSpelt f (known ++ spelt_row known [] ∷ [])
one-gone f known h none =
    let s : Spelt = spelt_row known [] in
    let same : file_of (known ++ s ∷ []) ≡ file_of known = file-push known s ∙ append-nil (file_of known) in
    let P : ℕ → Type 0 = λ k. (x : Thing) → f k ≡ Some x → Placed h.all (chain_at (known ++ s ∷ []) k) x in
    let old : (k : ℕ) → k < length known → P k = λ k lt x e. subst (λ (c : Chain). Placed h.all c x) (sym (chain-before known s k lt)) (h.placed k x lt e) in
    record {
      all = h.all;
      right = subst (λ rows. RightRows [] rows h.all) (sym same) h.right;
      fit = subst (All IsPlain) (sym same) h.fit;
      placed = λ k x lt e. up-to P (length known) old (λ y is. cc) k (omega (arith, length-append known (s ∷ []))) x e;
    }

one-spelt : (f : Meanings) (known : List Spelt) → RowsSpelt f known → (words : List ℕ) → IsLive f (length known) words → RowsSpelt f (known ++ spelt_row known words ∷ [])
one-spelt f known h words (inl there) = one-there f known h words there
one-spelt f known h words (inr gone) = subst (λ ws. RowsSpelt f (known ++ spelt_row known ws ∷ [])) (sym gone.0) (one-gone f known h gone.1)

after-spelt : (f : Meanings) (known : List Spelt) (rows : List (List ℕ)) → RowsSpelt f known → ((k : ℕ) (words : List ℕ) → slice_get rows k ≡ Some words → IsLive f (length known + k) words) → RowsSpelt f (built_after spelt_row known rows)
after-spelt f known [] h live = h
after-spelt f known (words ∷ rows) h live =
    let s : Spelt = spelt_row known words in
    let here : IsLive f (length known) words = subst (λ n. IsLive f n words) (omega arith) (live 0 words refl) in
    after-spelt f (known ++ s ∷ []) rows (one-spelt f known h words here) (λ k ws e.
    let place : length known + suc k ≡ length (known ++ s ∷ []) + k = omega (arith, length-append known (s ∷ [])) in
    subst (λ n. IsLive f n ws) place (live (suc k) ws e))

pub rows-spelt : (f : Meanings) (rows : List (List ℕ)) → ((k : ℕ) (words : List ℕ) → slice_get rows k ≡ Some words → IsLive f k words) → RowsSpelt f (spelt_rows rows)
rows-spelt f rows live = after-spelt f [] rows (none-spelt f) (λ k words e. subst (λ n. IsLive f n words) (omega arith) (live k words e))
