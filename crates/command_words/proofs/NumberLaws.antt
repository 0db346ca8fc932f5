-- Numbers that are read from words.
use Rattle.std.proofs.Common.{◌≡◌, ◌<◌, ◌≤◌, ◌^◌, ℕ, Bool, true, false, ◌&&◌, List, [], ◌∷◌, refl, sym, ap, arith, if◌then◌else◌, Some, None}
use Rattle.std.proofs.lemmas.Bool.{and_from, le-leb, lt-ltb, ltb-true, leb-true, true≢false}
use Rattle.std.specs.Prelude.{nat_le, nat_lt}
use Rattle.std.specs.Str.Parse.{AllDigits, IsNumeral, digits_value, without_leading_plus}
use Rattle.std.specs.Char.{digit_value}
use Rattle.command_words.specs.Words.{all_digits, is_numeral, number_within}

digits_are : (ds : List ℕ) → AllDigits 10 ds → all_digits ds ≡ true
digits_are [] all = refl
digits_are (c ∷ ds) all = and_from (nat_lt (digit_value c) 10) (all_digits ds) (lt-ltb (digit_value c) 10 all.0) (digits_are ds all.1)

numeral_is : (ds : List ℕ) → IsNumeral 10 ds → is_numeral ds ≡ true
numeral_is [] is = absurd (omega (arith, is.0))
numeral_is (c ∷ ds) is = digits_are (c ∷ ds) is.1

and_parts : (x y : Bool) → (x && y) ≡ true → (x ≡ true) × (y ≡ true)
and_parts true y e = (refl, e)
and_parts false y e = absurd (true≢false (sym e))

are_digits : (ds : List ℕ) → all_digits ds ≡ true → AllDigits 10 ds
are_digits [] e = tt
are_digits (c ∷ ds) e =
    let parts = and_parts (nat_lt (digit_value c) 10) (all_digits ds) e in
    (ltb-true (digit_value c) 10 parts.0, are_digits ds parts.1)

is_one : (ds : List ℕ) → is_numeral ds ≡ true → IsNumeral 10 ds
is_one [] e = absurd (true≢false (sym e))
is_one (c ∷ ds) e = (omega arith, are_digits (c ∷ ds) e)

picked : (a b c : Bool) (n v : ℕ) → a ≡ true → b ≡ true → c ≡ true → n ≡ v → Some n ≡ (if a && b && c then Some v else None)
picked true true true n v p q r e = ap Some e
picked true true false n v p q r e = absurd (true≢false (sym r))
picked true false c n v p q r e = absurd (true≢false (sym q))
picked false b c n v p q r e = absurd (true≢false (sym p))

-- a number that was read, between the bounds
pub found : (least most : ℕ) (word : List ℕ) (number : ℕ) → IsNumeral 10 (without_leading_plus word) → number ≡ digits_value 10 (without_leading_plus word) → least ≤ number → number ≤ most → Some number ≡ number_within least most word
found least most word number is same low high =
    let ds = without_leading_plus word in
    let value = digits_value 10 ds in
    let l : least ≤ value = omega (arith, same, low) in
    let h : value ≤ most = omega (arith, same, high) in
    picked (is_numeral ds) (nat_le least value) (nat_le value most) number value (numeral_is ds is) (le-leb least value l) (le-leb value most h) same

missed : (a b c : Bool) (v : ℕ) → (a ≡ true → c ≡ true → ⊥) → None ≡ (if a && b && c then Some v else None)
missed true true true v never = absurd (never refl refl)
missed true true false v never = refl
missed true false c v never = refl
missed false b c v never = refl

-- none was read
pub not_found : (least most : ℕ) (word : List ℕ) → most < 2 ^ 64 → (IsNumeral 10 (without_leading_plus word) × (digits_value 10 (without_leading_plus word) < 2 ^ 64) → ⊥) → None ≡ number_within least most word
not_found least most word few never =
    let ds = without_leading_plus word in
    let value = digits_value 10 ds in
    missed (is_numeral ds) (nat_le least value) (nat_le value most) value (λ numeral within.
    let h : value ≤ most = leb-true value most within in
    never (is_one ds numeral, omega (arith, h, few)))
