-- Strictly sorted lists, whatever their elements are.
use Rattle.std.proofs.Common.{◌≡◌, ◌≤◌, ⊎_elim, List, [], ◌∷◌, ◌++◌, length, refl, arith, Ordering}
use Rattle.std.specs.declared.cmp.Ordering.TheVariants.{Less}
use Rattle.std.specs.Cmp.{IsTotalOrder}
use Rattle.std.specs.List.{Contains}
use Rattle.std.specs.List.Sorted.{IsStrictlySortedBy}
use Rattle.std.proofs.lemmas.Cmp.{tied_itself}
use Rattle.std.proofs.lemmas.List.Elements.{All-contains, All-from_recursion, recursion_from_All, All-append, Contains-append_left, Contains-append_right}
use Rattle.antichains.specs.Antichains.{IsWithin}
use Rattle.antichains.proofs.Within.{IsWithin-head, IsWithin-tail}
use Rattle.antichains.proofs.Members.{Contains-head, Contains-rest, Contains-none, Contains-cons_cases, All-from_contains}

pub sorted_cons : {X : Type 0} (R : X → X → Ordering) (x : X) (xs : List X) → ((y : X) → Contains xs y → R x y ≡ Less) → IsStrictlySortedBy R xs → IsStrictlySortedBy R (x ∷ xs)
unfolding IsStrictlySortedBy
sorted_cons R x xs h s = (recursion_from_All (λ y. R x y ≡ Less) xs (All-from_contains (λ y. R x y ≡ Less) xs h), s)

pub sorted_head : {X : Type 0} (R : X → X → Ordering) (x : X) (xs : List X) → IsStrictlySortedBy R (x ∷ xs) → (y : X) → Contains xs y → R x y ≡ Less
unfolding IsStrictlySortedBy
sorted_head R x xs s y h = All-contains (λ y. R x y ≡ Less) xs y (All-from_recursion (λ y. R x y ≡ Less) xs s.0) h

pub sorted_rest : {X : Type 0} (R : X → X → Ordering) (x : X) (xs : List X) → IsStrictlySortedBy R (x ∷ xs) → IsStrictlySortedBy R xs
unfolding IsStrictlySortedBy
sorted_rest R x xs s = s.1

pub sorted_nil : {X : Type 0} (R : X → X → Ordering) → IsStrictlySortedBy R []
unfolding IsStrictlySortedBy
sorted_nil R = tt

pub sorted_one : {X : Type 0} (R : X → X → Ordering) (x : X) → IsStrictlySortedBy R (x ∷ [])
sorted_one R x = sorted_cons R x [] (λ y h. absurd (Contains-none y h)) (sorted_nil R)

-- two sorted lists, the first before the second
pub sorted_append : {X : Type 0} (R : X → X → Ordering) (xs ys : List X) → IsStrictlySortedBy R xs → IsStrictlySortedBy R ys → ((x y : X) → Contains xs x → Contains ys y → R x y ≡ Less) → IsStrictlySortedBy R (xs ++ ys)
sorted_append R [] ys sx sy h = sy
sorted_append R (x ∷ xs) ys sx sy h =
    sorted_cons R x (xs ++ ys)
    (λ y c. All-contains (λ y. R x y ≡ Less) (xs ++ ys) y
    (All-append (λ y. R x y ≡ Less) xs ys
    (All-from_contains (λ y. R x y ≡ Less) xs (sorted_head R x xs sx))
    (All-from_contains (λ y. R x y ≡ Less) ys (λ y c. h x y (Contains-head x xs) c)))
    c)
    (sorted_append R xs ys (sorted_rest R x xs sx) sy (λ z y c d. h z y (Contains-rest x xs z c) d))

pub sorted_prefix : {X : Type 0} (R : X → X → Ordering) (xs ys : List X) → IsStrictlySortedBy R (xs ++ ys) → IsStrictlySortedBy R xs
sorted_prefix R [] ys s = sorted_nil R
sorted_prefix R (x ∷ xs) ys s =
    sorted_cons R x xs (λ y c. sorted_head R x (xs ++ ys) s y (Contains-append_left xs ys y c))
    (sorted_prefix R xs ys (sorted_rest R x (xs ++ ys) s))

pub sorted_suffix : {X : Type 0} (R : X → X → Ordering) (xs ys : List X) → IsStrictlySortedBy R (xs ++ ys) → IsStrictlySortedBy R ys
sorted_suffix R [] ys s = s
sorted_suffix R (x ∷ xs) ys s = sorted_suffix R xs ys (sorted_rest R x (xs ++ ys) s)

pub sorted_across : {X : Type 0} (R : X → X → Ordering) (xs ys : List X) → IsStrictlySortedBy R (xs ++ ys) → (x y : X) → Contains xs x → Contains ys y → R x y ≡ Less
sorted_across R [] ys s x y c d = absurd (Contains-none x c)
sorted_across R (z ∷ xs) ys s x y c d =
    ⊎_elim
    (λ e. rw (← e) (sorted_head R z (xs ++ ys) s y (Contains-append_right xs ys y d)))
    (λ h. sorted_across R xs ys (sorted_rest R z (xs ++ ys) s) x y h d)
    (Contains-cons_cases z xs x c)

module _ {X : Type 0} {R : X → X → Ordering} (o : IsTotalOrder R) where
  pub never_below_itself : (x : X) → R x x ≡ Less → ⊥
  never_below_itself x l = let e = tied_itself o x in cc

  pub never_both_below : (x y : X) → R x y ≡ Less → R y x ≡ Less → ⊥
  never_both_below x y l m = never_below_itself x (o.trans x y x l m)

  -- what is below the head of a sorted list is none of its elements
  pub never_among : (x y : X) (ys : List X) → R x y ≡ Less → IsStrictlySortedBy R (y ∷ ys) → Contains (y ∷ ys) x → ⊥
  never_among x y ys l s c =
      ⊎_elim
      (λ e. never_below_itself x (rw e at l))
      (λ h. never_both_below x y l (sorted_head R y ys s x h))
      (Contains-cons_cases y ys x c)

  -- a sorted list within another is no longer, and is that one if it is as long
  pub record FitsIn (xs ys : List X) : Type 0 where
    pub short : length xs ≤ length ys
    pub full : length ys ≤ length xs → xs ≡ ys

  -- what a list has in a longer one it has after that one's head, if all of it is above the head
  pub within_rest : (y : X) (ys xs : List X) → ((z : X) → Contains xs z → R y z ≡ Less) → IsWithin xs (y ∷ ys) → IsWithin xs ys
  within_rest y ys xs above w =
      record {
        each = λ z c.
            ⊎_elim
            (λ e. absurd (never_below_itself z (rw e at (above z c))))
            (λ h. h)
            (Contains-cons_cases y ys z (w.each z c));
      }

  -- a sorted list is above what is below its head
  pub above_all : (x y : X) (ys : List X) → R x y ≡ Less → IsStrictlySortedBy R (y ∷ ys) → (z : X) → Contains (y ∷ ys) z → R x z ≡ Less
  above_all x y ys l s z c =
      ⊎_elim (λ e. rw (← e) l) (λ h. o.trans x y z l (sorted_head R y ys s z h)) (Contains-cons_cases y ys z c)

  pub fits_in : (xs ys : List X) → IsStrictlySortedBy R xs → IsStrictlySortedBy R ys → IsWithin xs ys → FitsIn xs ys
  fits_in [] [] sx sy w = record { short = omega arith; full = λ l. refl }
  fits_in [] (y ∷ ys) sx sy w = record { short = omega arith; full = λ l. absurd (omega arith) }
  fits_in (x ∷ xs) [] sx sy w = absurd (Contains-none x (IsWithin-head x xs [] w))
  fits_in (x ∷ xs) (y ∷ ys) sx sy w =
      let rest : IsWithin xs (y ∷ ys) = IsWithin-tail x xs (y ∷ ys) w in
      ⊎_elim
      (λ e.
      let f = fits_in xs ys (sorted_rest R x xs sx) (sorted_rest R y ys sy) (within_rest y ys xs (λ z c. rw e (sorted_head R x xs sx z c)) rest) in
      record { short = omega arith; full = λ l. let t : xs ≡ ys = f.full (omega arith) in cc })
      (λ h.
      let inside = within_rest y ys (x ∷ xs) (above_all y x xs (sorted_head R y ys sy x h) sx) w in
      let f = fits_in (x ∷ xs) ys sx (sorted_rest R y ys sy) inside in
      record { short = omega arith; full = λ l. absurd (omega arith) })
      (Contains-cons_cases y ys x (IsWithin-head x xs (y ∷ ys) w))

  -- sorted lists within each other are one
  pub within_both : (xs ys : List X) → IsStrictlySortedBy R xs → IsStrictlySortedBy R ys → IsWithin xs ys → IsWithin ys xs → xs ≡ ys
  within_both xs ys sx sy w v = (fits_in xs ys sx sy w).full (fits_in ys xs sy sx v).short
