-- A table of things that have names, in the order of the names, and what a search by halves finds in it.
use Rattle.std.proofs.Common.{◌≡◌, ℕ, zero, suc, ◌+◌, ◌<◌, Bool, true, false, not, ◌&&◌, List, [], ◌∷◌, length, get_or, cond, Option, Some, None, Result, Ok, Err, IfOk, IfErr, inl, inr, refl, sym, ◌∙◌, ap, arith}
use Rattle.std.proofs.lemmas.Bool.{and_parts, cases_lt}
use Rattle.std.proofs.lemmas.Cmp.{nat_list_cmp_total, tied_itself}
use Rattle.std.proofs.lemmas.List.Sorted.{searchable_from_sorted}
use Rattle.std.proofs.lemmas.Map.Lookups.{exact_bytes}
use Rattle.std.proofs.lemmas.Slice.Eq.{bytes_eq-Decides}
use Rattle.std.specs.Cmp.Lexicographic.{slice_cmp}
use Rattle.std.specs.List.{HoldsAt}
use Rattle.std.specs.List.Sorted.{IsBinarySearchResult, IsSortedBy}
use Rattle.std.specs.Ordering.{nat_cmp, is_lt}
use Rattle.std.specs.declared.cmp.Ordering.TheVariants.{Less, Equal, Greater}
use Rattle.std.specs.Str.{bytes_eq}

module _ {X : Type 0} (name : X → List ℕ) where
  -- x does not come after y
  abbrev below : X → X → Bool
  below x y = is_lt (slice_cmp nat_cmp (name x) (name y))

  abbrev follows : X → List X → Bool
  follows x [] = true
  follows x (y ∷ rest) = not (below y x) && follows y rest

  -- the table is in the order of its names
  abbrev pub in_order : List X → Bool
  in_order [] = true
  in_order (x ∷ rest) = follows x rest

  -- the first that has the name
  abbrev pub named : List X → List ℕ → Option X
  named [] word = None
  named (x ∷ rest) word = cond (bytes_eq word (name x)) (Some x) (named rest word)

  not_true : (b : Bool) → not b ≡ true → b ≡ false
  not_true true e = cc
  not_true false e = refl

  follows-sorted : (x : X) (rest : List X) → follows x rest ≡ true → IsSortedBy below (x ∷ rest)
  follows-sorted x [] e k d low lt = absurd (omega arith)
  follows-sorted x (y ∷ rest) e zero d low lt =
      let parts = and_parts (not (below y x)) (follows y rest) e in
      not_true (below y x) parts.0
  follows-sorted x (y ∷ rest) e (suc k) d low lt =
      let parts = and_parts (not (below y x)) (follows y rest) e in
      let next : suc k + 1 ≡ suc (k + 1) = omega arith in
      rw next (follows-sorted y rest parts.1 k d (omega arith) (omega arith))

  sorted : (table : List X) → in_order table ≡ true → IsSortedBy below table
  sorted [] e k d low lt = absurd (omega arith)
  sorted (x ∷ rest) e k d low lt = follows-sorted x rest e k d low lt

  -- where a name leads
  record Place (table : List X) (word : List ℕ) (x : X) : Type 0 where
    pub at : ℕ
    pub within : at < length table
    pub is : get_or table at x ≡ x
    pub same : word ≡ name x

  place : (table : List X) (word : List ℕ) (x : X) → named table word ≡ Some x → Place table word x
  place [] word x e = cc
  place (y ∷ rest) word x e = choose (bytes_eq word (name y)) refl e (place rest word x)
    where
      choose : (b : Bool) → bytes_eq word (name y) ≡ b → cond b (Some y) (named rest word) ≡ Some x → (named rest word ≡ Some x → Place rest word x) → Place (y ∷ rest) word x
      choose true same e later =
          let p : Some y ≡ Some x = e in
          let q : y ≡ x = cc in
          record { at = 0; within = omega arith; is = q; same = (bytes_eq-Decides word (name y)).0 same ∙ ap name q }
      choose false other e later =
          let h = later e in
          record { at = suc h.at; within = let w = h.within in omega arith; is = h.is; same = h.same }

  module _ (table : List X) (order : in_order table ≡ true) (every : (x : X) → named table (name x) ≡ Some x) where
    -- the name tells the thing
    pub same_from_name : (x y : X) → name x ≡ name y → x ≡ y
    same_from_name x y e =
        let p : Some x ≡ Some y = sym (every x) ∙ ap (named table) e ∙ every y in
        cc

    pub found : (word : List ℕ) (r : Result ℕ ℕ) → IsBinarySearchResult (λ x. slice_cmp nat_cmp (name x) word) table r → IfOk r (HoldsAt (λ x. word ≡ name x) table)
    found word (Ok at) equal = λ d. sym (exact_bytes _ _ (equal d))
    found word (Err at) parted = tt

    pub absent : (word : List ℕ) (r : Result ℕ ℕ) → IsBinarySearchResult (λ x. slice_cmp nat_cmp (name x) word) table r → IfErr r (λ at. (x : X) → word ≡ name x → ⊥)
    absent word (Ok at) equal = tt
    absent word (Err at) parted = λ x e.
        let h = place table word x (ap (named table) e ∙ every x) in
        let parts = parted (searchable_from_sorted nat_list_cmp_total name table word (sorted table order)) in
        let tie : slice_cmp nat_cmp (name x) word ≡ Equal = rw e (tied_itself nat_list_cmp_total (name x)) in
        elim (cases_lt h.at at) [
          | inl lt ↦ let less : slice_cmp nat_cmp (name x) word ≡ Less = rw h.is at (parts.0 h.at x (omega arith) lt) in cc
          | inr ge ↦ let greater : slice_cmp nat_cmp (name x) word ≡ Greater = rw h.is at (parts.1 h.at x ge h.within) in cc
        ]
