-- What numbers say, one after another.
use Rattle.std.proofs.Common.{◌≡◌, ℕ, List, [], ◌∷◌, ◌∙◌, length, refl, ap, ap₂, arith, Option, Some}
use Rattle.rows.proofs.OptionLaws.{both-some}
use Rattle.std.specs.Prelude.{slice_index_or}
use Rattle.std.specs.List.{AllZip}
use Rattle.trees.specs.Things.{meanings, both, consed}

-- each number says what stands at its place

pub all_said : {A : Type 0} (f : ℕ → Option A) (ks : List ℕ) (xs : List A) → AllZip (λ k x. f k ≡ Some x) ks xs → meanings f ks ≡ Some xs
all_said f [] [] h = refl
all_said f [] (x ∷ xs) h = absurd h
all_said f (k ∷ ks) [] h = absurd h
all_said f (k ∷ ks) (x ∷ xs) h = ap₂ (both consed) h.0 (all_said f ks xs h.1)

pub each_said : {A : Type 0} (f : ℕ → Option A) (ks : List ℕ) (xs : List A) → meanings f ks ≡ Some xs → AllZip (λ k x. f k ≡ Some x) ks xs
each_said f [] [] e = tt
each_said f [] (x ∷ xs) e = absurd (cc e)
each_said f (k ∷ ks) [] e =
    let b = both-some consed (f k) (meanings f ks) [] e in
    let whole : Some (b.first ∷ b.second) ≡ Some [] = b.whole in
    absurd (cc whole)
each_said f (k ∷ ks) (x ∷ xs) e =
    let b = both-some consed (f k) (meanings f ks) (x ∷ xs) e in
    let whole : Some (b.first ∷ b.second) ≡ Some (x ∷ xs) = b.whole in
    let same : b.first ≡ x = cc in
    let rest : b.second ≡ xs = cc in
    (b.first_is ∙ ap Some same, each_said f ks xs (b.second_is ∙ ap Some rest))

-- where there are so many numbers, these are the ones at the first places

pub first_number : {A : Type 0} (f : ℕ → Option A) (ks : List ℕ) (xs : List A) → length ks ≡ 1 → meanings f ks ≡ Some xs → meanings f (slice_index_or ks 0 0 ∷ []) ≡ Some xs
first_number f [] xs n e = absurd (omega arith)
first_number f (k ∷ []) xs n e = e
first_number f (j ∷ k ∷ ks) xs n e = absurd (omega arith)

pub first_two_numbers : {A : Type 0} (f : ℕ → Option A) (ks : List ℕ) (xs : List A) → length ks ≡ 2 → meanings f ks ≡ Some xs → meanings f (slice_index_or ks 0 0 ∷ slice_index_or ks 1 0 ∷ []) ≡ Some xs
first_two_numbers f [] xs n e = absurd (omega arith)
first_two_numbers f (k ∷ []) xs n e = absurd (omega arith)
first_two_numbers f (j ∷ k ∷ []) xs n e = e
first_two_numbers f (i ∷ j ∷ k ∷ ks) xs n e = absurd (omega arith)
