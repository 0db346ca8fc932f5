-- Which words are numbers.
use Rattle.std.proofs.Common.{◌≡◌, ℕ, zero, suc, ◌+◌, ◌-◌, ◌*◌, ◌<◌, ◌≤◌, ◌^◌, List, length, get_or, take, take_all, sym, ◌∙◌, ap, subst, arith, decimal, Option, Some, None, IfSome, IfNone}
use Rattle.std.specs.Option.{SomeIff}
use Rattle.std.specs.Char.{digit_value, IsAsciiDigit, IsNotAsciiDigit}
use Rattle.std.specs.Str.Parse.{AllDigits, digits_value}
use Rattle.std.proofs.lemmas.Fmt.{decimal-digits_value, decimal_is_IsNumeral, decimal_digit, decimal_nonempty, first_decimal}
use Rattle.std.proofs.lemmas.Int.Digits.{digits_more, digits_value_more}
use Rattle.std.proofs.lemmas.Str.{digit_value_digit}
use Rattle.std.proofs.lemmas.Str.Parse.{IsNumeralModel, numerals_by_value, tells_digits, digit_at, digits_value-take-le}

by_digits : IsNumeralModel (AllDigits 10) (digits_value 10)
by_digits = numerals_by_value (AllDigits 10) tells_digits

-- digits of which the first is not 0, or the one digit 0
pub record IsNumeral (word : List ℕ) : Type 0 where
  pub digits : AllDigits 10 word
  pub some : 0 < length word
  pub single : get_or word 0 0 ≡ 48 → length word ≡ 1

-- such a word is the number that it has as its value
pub number_of_digits : (word : List ℕ) (n : ℕ) → IsNumeral word → digits_value 10 word ≡ n → n < 2 ^ 64 → word ≡ decimal n
number_of_digits word n numeral value small =
    sym (decimal-digits_value by_digits word numeral.digits numeral.some numeral.single (omega arith)) ∙ ap decimal value

zero_alone : (n : ℕ) → n < 2 ^ 64 → get_or (decimal n) 0 0 ≡ 48 → length (decimal n) ≡ 1
zero_alone zero small first = ap length (decimal_digit 0 (omega arith))
zero_alone (suc n) small first = let above = first_decimal (suc n) (omega arith) small in absurd (omega arith)

-- what spells a number is such a word
pub digits_of_number : (word : List ℕ) (n : ℕ) → n < 2 ^ 64 → word ≡ decimal n → IsNumeral word × (digits_value 10 word ≡ n)
digits_of_number word n small e =
    let numeral = decimal_is_IsNumeral n small in
    rw e (record { digits = numeral.0.1; some = decimal_nonempty n small; single = zero_alone n small }, numeral.1)

-- what is read of a word: the number that it spells, or nothing where it spells none
pub number_read : (word : List ℕ) (found : Option ℕ) → 0 < length word → (get_or word 0 0 ≡ 48 → length word ≡ 1) → SomeIff found (AllDigits 10 word × (digits_value 10 word < 2 ^ 64)) (digits_value 10 word) → IfSome found (λ n. word ≡ decimal n) × IfNone found ((n : ℕ) → n < 2 ^ 64 → word ≡ decimal n → ⊥)
number_read word None some single digits = (tt, λ n small e. let w = digits_of_number word n small e in digits (w.0.digits, omega (arith, w.1)))
number_read word (Some n) some single digits =
    let numeral : IsNumeral word = record { digits = digits.0.0; some = some; single = single } in
    (number_of_digits word n numeral (sym digits.1) (omega (arith, digits.0.1, digits.1)), tt)

-- all before a place are digits, of that value
pub record DigitsBefore (word : List ℕ) (i value : ℕ) : Type 0 where
  pub digits : AllDigits 10 (take i word)
  pub valued : digits_value 10 (take i word) ≡ value
  pub small : value < 2 ^ 64

-- one digit more
value_more : (word : List ℕ) (i value : ℕ) → i < length word → digits_value 10 (take i word) ≡ value → IsAsciiDigit (get_or word i 0) → digits_value 10 (take (i + 1) word) ≡ value * 10 + (get_or word i 0 - 48)
value_more word i value within valued digit =
    let here : digit_value (get_or word i 0) + 48 ≡ get_or word i 0 = digit_value_digit (get_or word i 0) digit in
    omega (arith, digits_value_more 10 word i within)

pub one_digit_more : (word : List ℕ) (i value : ℕ) → i < length word → DigitsBefore word i value → IsAsciiDigit (get_or word i 0) → (next : ℕ) → next ≡ value * 10 + (get_or word i 0 - 48) → next < 2 ^ 64 → DigitsBefore word (i + 1) next
one_digit_more word i value within before digit next is small =
    let here : digit_value (get_or word i 0) + 48 ≡ get_or word i 0 = digit_value_digit (get_or word i 0) digit in
    record {
      digits = digits_more 10 word i within before.digits (omega arith);
      valued = value_more word i value within before.valued digit ∙ sym is;
      small = small;
    }

-- the value of all digits is no less than that of the first ones
pub first_digits_le : (word : List ℕ) (i value : ℕ) → i < length word → DigitsBefore word i value → IsAsciiDigit (get_or word i 0) → value * 10 + (get_or word i 0 - 48) ≤ digits_value 10 word
first_digits_le word i value within before digit =
    omega (arith, digits_value-take-le 10 word (i + 1) (omega arith), value_more word i value within before.valued digit)

pub not_a_digit : (word : List ℕ) (i : ℕ) → i < length word → IsNotAsciiDigit (get_or word i 0) → AllDigits 10 word → ⊥
not_a_digit word i within other digits = let digit = digit_at word i digits within in omega (arith, digit, other)

-- past the last place
pub all_digits : (word : List ℕ) (i value : ℕ) → length word ≤ i → DigitsBefore word i value → SomeIff (Some value) (AllDigits 10 word × (digits_value 10 word < 2 ^ 64)) (digits_value 10 word)
all_digits word i value past before =
    let whole = take_all i word past in
    let value_is : digits_value 10 word ≡ value = ap (digits_value 10) (sym whole) ∙ before.valued in
    ((subst (AllDigits 10) whole before.digits, omega (arith, before.small)), sym value_is)
