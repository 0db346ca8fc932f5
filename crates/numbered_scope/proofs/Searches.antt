-- The newest value of a number, where the numbers do not fall.
use Rattle.std.proofs.Common.{◌≡◌, ◌==◌, ◌+◌, ◌-◌, ◌<◌, ◌≤◌, ℕ, suc, Bool, true, false, leb, leb-true, leb-false, List, [], ◌∷◌, ◌++◌, length, get_or, take, drop, Option, Some, None, refl, sym, ap, ap₂, ◌∙◌, subst, arith, true≢false, if◌then◌else◌}
use Rattle.std.specs.List.Sorted.{IsPartitionPoint}
use Rattle.std.proofs.lemmas.Bool.{eqb-true, eq-eqb}
use Rattle.std.proofs.lemmas.List.Sorted.{IsNonDecreasingBy-push}
use Rattle.std.proofs.lemmas.List.{take_more, get_or-drop, get_or-take, length-take, length-drop, take-append-drop}
use Rattle.numbered_scope.specs.declared.numbered.Numbered.{Numbered}
use Rattle.numbered_scope.specs.Newest.{later, newest, Ascend}

later_none : {T : Type 0} (o : Option T) → later None o ≡ o
later_none None = refl
later_none (Some b) = refl

later_later : {T : Type 0} (a b c : Option T) → later (later a b) c ≡ later a (later b c)
later_later a b None = refl
later_later a b (Some c) = refl

differs : (m n : ℕ) → (m ≡ n → ⊥) → (m == n) ≡ false
differs m n apart = elim (m == n) as (λ v. (m == n) ≡ v → v ≡ false) [ true ↦ λ e. absurd (apart (eqb-true m n e)) | false ↦ λ e. refl ] refl

same_not : (m n : ℕ) → (m == n) ≡ false → m ≡ n → ⊥
same_not m n e same = true≢false (sym (eq-eqb m n same) ∙ e)

pub newest_append : {T : Type 0} (xs ys : List (Numbered T)) (n : ℕ) → newest (xs ++ ys) n ≡ later (newest xs n) (newest ys n)
newest_append [] ys n = sym (later_none (newest ys n))
newest_append (x ∷ xs) ys n =
    let first = if x.number == n then Some x.value else None in
    ap (later first) (newest_append xs ys n) ∙ sym (later_later first (newest xs n) (newest ys n))

-- one more value
pub newest_more : {T : Type 0} (xs : List (Numbered T)) (k n : ℕ) (d : Numbered T) → k < length xs
    → later (newest (take k xs) n) (if (get_or xs k d).number == n then Some (get_or xs k d).value else None) ≡ newest (take (k + 1) xs) n
newest_more xs k n d lt =
    let x = get_or xs k d in
    sym (newest_append (take k xs) (x ∷ []) n) ∙ ap (λ ys. newest ys n) (sym (take_more xs k d lt))

-- d is what a place past the end is read as
module _ {T : Type 0} (d : Numbered T) where
  newest_none : (bs : List (Numbered T)) (n : ℕ) → ((k : ℕ) → k < length bs → (get_or bs k d).number ≡ n → ⊥) → newest bs n ≡ None
  newest_none [] n h = refl
  newest_none (b ∷ bs) n h =
      let rest = newest_none bs n (λ k lt. h (suc k) (omega arith)) in
      ap₂ later (ap (λ v. if v then Some b.value else None) (differs b.number n (h 0 (omega arith)))) rest

  -- none of the number stands from a place on where all are greater
  newest_first : (bs : List (Numbered T)) (i n : ℕ) → ((k : ℕ) → i ≤ k → k < length bs → n < (get_or bs k d).number) → newest bs n ≡ newest (take i bs) n
  newest_first bs i n above =
      ap (λ xs. newest xs n) (sym (take-append-drop i bs)) ∙ newest_append (take i bs) (drop i bs) n
      ∙ ap (later (newest (take i bs) n)) (newest_none (drop i bs) n (λ k lt e.
      let at = ap (λ (b : Numbered T). b.number) (get_or-drop i bs k d) in
      let long = length-drop i bs in
      let far = above (i + k) (omega arith) (omega arith) in
      omega arith))

  module _ (bs : List (Numbered T)) (i n : ℕ) (point : IsPartitionPoint (λ (b : Numbered T). leb b.number n ≡ true) (λ (b : Numbered T). leb b.number n ≡ false) bs i) where
    greater : (k : ℕ) → i ≤ k → k < length bs → n < (get_or bs k d).number
    greater k le lt = leb-false (get_or bs k d).number n (point.1 k d le lt)

    pub none_found : i ≡ 0 → newest bs n ≡ None
    none_found e = newest_first bs i n greater ∙ ap (λ j. newest (take j bs) n) e

    pub one_found : (j : ℕ) → Ascend bs → i ≡ j + 1 → j < length bs → newest bs n ≡ later None (if (get_or bs j d).number == n then Some (get_or bs j d).value else None)
    one_found j up e lt =
        newest_first bs i n greater ∙ ap (λ m. newest (take m bs) n) e ∙ sym (newest_more bs j n d lt) ∙ last
      where
        before : (get_or bs j d).number == n ≡ false → newest (take j bs) n ≡ None
        before other = newest_none (take j bs) n (λ k lower here.
            let long = length-take j bs in
            let at = ap (λ (b : Numbered T). b.number) (get_or-take j bs k d (omega arith)) in
            let order = up k j d (omega arith) lt in
            let most = leb-true (get_or bs j d).number n (point.0 j d (omega arith) (omega arith)) in
            same_not (get_or bs j d).number n other (omega arith))

        last : later (newest (take j bs) n) (if (get_or bs j d).number == n then Some (get_or bs j d).value else None) ≡ later None (if (get_or bs j d).number == n then Some (get_or bs j d).value else None)
        last = elim ((get_or bs j d).number == n) as (λ v. (get_or bs j d).number == n ≡ v
            → later (newest (take j bs) n) (if v then Some (get_or bs j d).value else None) ≡ later None (if v then Some (get_or bs j d).value else None)) [
              | true ↦ λ is. refl
              | false ↦ before
            ] refl

-- numbers that do not fall, with or without one more that is at least the last
pub more_ascend : {T : Type 0} (bs cs : List (Numbered T)) (b : Numbered T) (made : Bool) → cs ≡ (if made then bs ++ b ∷ [] else bs) → Ascend bs → ((d : Numbered T) → 0 < length bs → (get_or bs (length bs - 1) d).number ≤ b.number) → Ascend cs
more_ascend bs cs b made e up next =
    subst Ascend (sym e) (elim made as (λ v. Ascend (if v then bs ++ b ∷ [] else bs)) [ true ↦ IsNonDecreasingBy-push (λ x. x.number) bs b up next | false ↦ up ])

-- where all are greater, none is found
pub none_at_all : {T : Type 0} (xs : List (Numbered T)) (i n : ℕ) → IsPartitionPoint (λ (x : Numbered T). leb x.number n ≡ true) (λ (x : Numbered T). leb x.number n ≡ false) xs i → i ≡ 0
    → newest xs n ≡ None
none_at_all [] i n point e = refl
none_at_all (x ∷ xs) i n point e = none_found x (x ∷ xs) i n point e
