-- Names that come in order of level.
use Rattle.std.proofs.Common.{◌≡◌, ◌⊎◌, inl, inr, ℕ, zero, suc, ◌+◌, ◌-◌, ◌<◌, ◌≤◌, List, [], ◌∷◌, ◌++◌, length, take, drop, get_or, refl, sym, ◌∙◌, ap, ap₂, subst, arith, Contains}
use Rattle.std.specs.declared.cmp.Ordering.{Ordering}
use Rattle.std.specs.declared.cmp.Ordering.TheVariants.{Less, Equal, Greater}
use Rattle.std.specs.Cmp.{IsTotalOrder}
use Rattle.std.specs.Ordering.{nat_cmp}
use Rattle.std.specs.List.Sorted.{IsStrictlySortedBy}
use Rattle.std.proofs.lemmas.Cmp.{ranked, on_total, back_total, nat_cmp_total}
use Rattle.std.proofs.lemmas.List.{take_more, take_all}
use Rattle.std.proofs.lemmas.List.Elements.{Contains-push, Contains-push_cases}
use Rattle.antichains.proofs.Members.{Contains-head, Contains-cons_cases, Contains-none}
use Rattle.antichains.proofs.Ordered.{sorted_append, sorted_prefix, sorted_across, sorted_one, sorted_nil}
use Rattle.normal_formulas.specs.declared.atoms.Atom.{Atom}
use Rattle.normal_formulas.specs.Atoms.{level_cmp}

pub is-less : (x y : ℕ) → nat_cmp x y ≡ Less → x < y
is-less x y e = ranked x y Less (sym e)

pub less-is : (x y : ℕ) → x < y → nat_cmp x y ≡ Less
less-is x y lt = by (nat_cmp x y) refl
  where
    by : (o : Ordering) → o ≡ nat_cmp x y → nat_cmp x y ≡ Less
    by Less e = sym e
    by Equal e = let same : x ≡ y = ranked x y Equal e in absurd (omega arith)
    by Greater e = let more : y < x = ranked x y Greater e in absurd (omega arith)

level_total : IsTotalOrder level_cmp
level_total = back_total (on_total (λ (a : Atom). a.index.0) nat_cmp_total)

take-drop : {X : Type 0} (n : ℕ) (xs : List X) → take n xs ++ drop n xs ≡ xs
take-drop zero xs = refl
take-drop (suc n) [] = refl
take-drop (suc n) (x ∷ xs) = ap (λ ys. x ∷ ys) (take-drop n xs)

-- one more
push-sorted : (t : List Atom) (b x : Atom) → IsStrictlySortedBy level_cmp (t ++ b ∷ []) → level_cmp b x ≡ Less → IsStrictlySortedBy level_cmp ((t ++ b ∷ []) ++ x ∷ [])
push-sorted t b x s less = sorted_append level_cmp (t ++ b ∷ []) (x ∷ []) s (sorted_one level_cmp x) before
  where
    only : (w : Atom) → Contains (x ∷ []) w → x ≡ w
    only w c = elim (Contains-cons_cases x [] w c) [
      | inl e ↦ e
      | inr n ↦ absurd (Contains-none w n)
    ]

    below : (y : Atom) → Contains (t ++ b ∷ []) y → level_cmp y x ≡ Less
    below y c = elim (Contains-push_cases t b y c) [
      | inl d ↦ level_total.trans y b x (sorted_across level_cmp t (b ∷ []) s y b d (Contains-head b [])) less
      | inr e ↦ subst (λ a. level_cmp a x ≡ Less) e less
    ]

    before : (y w : Atom) → Contains (t ++ b ∷ []) y → Contains (x ∷ []) w → level_cmp y w ≡ Less
    before y w c d = subst (λ a. level_cmp y a ≡ Less) (only w d) (below y c)

last-two : (xs : List Atom) (i j : ℕ) (b x : Atom) → j + 1 ≡ i → i < length xs → b ≡ get_or xs j b → x ≡ get_or xs i x → take (i + 1) xs ≡ (take j xs ++ b ∷ []) ++ x ∷ []
last-two xs i j b x e lt first second =
    take_more xs i x lt
    ∙ ap₂ (λ us u. us ++ u ∷ []) (ap (λ n. take n xs) (sym e) ∙ take_more xs j b (omega arith) ∙ ap (λ u. take j xs ++ u ∷ []) (sym first)) (sym second)

pub rising-begin : (xs : List Atom) → IsStrictlySortedBy level_cmp (take 1 xs)
rising-begin [] = sorted_nil level_cmp
rising-begin (x ∷ xs) = sorted_one level_cmp x

pub rising-next : (xs : List Atom) (i j : ℕ) (b x : Atom) → j + 1 ≡ i → i < length xs → b ≡ get_or xs j b → x ≡ get_or xs i x → x.index.0 < b.index.0 → IsStrictlySortedBy level_cmp (take i xs) → IsStrictlySortedBy level_cmp (take (i + 1) xs)
rising-next xs i j b x e lt first second less s =
    let before : take i xs ≡ take j xs ++ b ∷ [] = ap (λ n. take n xs) (sym e) ∙ take_more xs j b (omega arith) ∙ ap (λ u. take j xs ++ u ∷ []) (sym first) in
    subst (IsStrictlySortedBy level_cmp) (sym (last-two xs i j b x e lt first second)) (push-sorted (take j xs) b x (subst (IsStrictlySortedBy level_cmp) before s) (less-is x.index.0 b.index.0 less))

pub rising-fails : (xs : List Atom) (i j : ℕ) (b x : Atom) → j + 1 ≡ i → i < length xs → b ≡ get_or xs j b → x ≡ get_or xs i x → b.index.0 ≤ x.index.0 → IsStrictlySortedBy level_cmp xs → ⊥
rising-fails xs i j b x e lt first second more s =
    let part = sorted_prefix level_cmp (take (i + 1) xs) (drop (i + 1) xs) (subst (IsStrictlySortedBy level_cmp) (sym (take-drop (i + 1) xs)) s) in
    let two = subst (IsStrictlySortedBy level_cmp) (last-two xs i j b x e lt first second) part in
    let less = is-less x.index.0 b.index.0 (sorted_across level_cmp (take j xs ++ b ∷ []) (x ∷ []) two b x (Contains-push (take j xs) b) (Contains-head x [])) in
    omega (arith, more, less)

pub rising-end : (xs : List Atom) (i : ℕ) → length xs ≤ i → IsStrictlySortedBy level_cmp (take i xs) → IsStrictlySortedBy level_cmp xs
rising-end xs i past s = subst (IsStrictlySortedBy level_cmp) (take_all i xs past) s

-- the same, whatever stands for what is not there
default : (xs : List Atom) (i : ℕ) (a b : Atom) → i < length xs → get_or xs i a ≡ get_or xs i b
default [] i a b lt = absurd (omega arith)
default (x ∷ xs) zero a b lt = refl
default (x ∷ xs) (suc i) a b lt = default xs i a b (omega arith)

pub rises-on : (xs : List Atom) (i j : ℕ) (d e : Atom) → j + 1 ≡ i → i < length xs → (get_or xs i e).index.0 < (get_or xs j d).index.0 → IsStrictlySortedBy level_cmp (take i xs) → IsStrictlySortedBy level_cmp (take (i + 1) xs)
rises-on xs i j d e place lt less s = rising-next xs i j (get_or xs j d) (get_or xs i e) place lt (default xs j d (get_or xs j d) (omega arith)) (default xs i e (get_or xs i e) lt) less s

pub rises-not : (xs : List Atom) (i j : ℕ) (d e : Atom) → j + 1 ≡ i → i < length xs → (get_or xs j d).index.0 ≤ (get_or xs i e).index.0 → IsStrictlySortedBy level_cmp xs → ⊥
rises-not xs i j d e place lt more s = rising-fails xs i j (get_or xs j d) (get_or xs i e) place lt (default xs j d (get_or xs j d) (omega arith)) (default xs i e (get_or xs i e) lt) more s
