-- The words of a line.
use Rattle.std.proofs.Common.{◌≡◌, ◌≢◌, ℕ, ◌<◌, Bool, true, false, List, [], ◌∷◌, ◌++◌, length, ◌==◌, Option, Some, None, IsTrue, not, map, get_or, decimal, refl, sym, ap, ◌∙◌, arith, ne_eqb}
use Rattle.std.specs.List.{All}
use Rattle.std.specs.Option.{is_some}
use Rattle.std.proofs.lemmas.List.Elements.{All-weaker}
use Rattle.std.proofs.lemmas.List.Splits.{slice_split_none, slice_split_at, length-slice_split}
use denote.Ref.{Bor}
use Rattle.deriv_file.specs.Words.{line_words, words_left}

not_spaces : (word : List ℕ) → All (λ b. b ≢ 32) word → All (λ b. (b == 32) ≡ false) word
not_spaces word none = All-weaker (λ b. b ≢ 32) (λ b. (b == 32) ≡ false) (λ b other. ne_eqb b 32 other) word none

-- the first word ends at the first space
pub first_word : (line word rest : List ℕ) → line ≡ word ++ 32 ∷ rest → All (λ b. b ≢ 32) word → line_words line ≡ word ∷ line_words rest
first_word line word rest e none = ap line_words e ∙ slice_split_at (λ b. b == 32) word 32 rest (not_spaces word none) refl

-- a line with no space is one word
pub one_word : (line : List ℕ) → All (λ b. b ≢ 32) line → line_words line ≡ line ∷ []
one_word line none = slice_split_none (λ b. b == 32) line (not_spaces line none)

-- no word is left only where nothing is
pub no_words : (rest : Option (Bor (List ℕ))) (r : Bool) → is_some rest ≡ not r → (IsTrue r → words_left rest ≡ []) × (words_left rest ≡ [] → IsTrue r)
no_words None true e = (λ _. refl, λ _. refl)
no_words None false e = absurd (cc)
no_words (Some rest) true e = absurd (cc)
no_words (Some rest) false e = (λ h. absurd (cc), λ h. let n = length-slice_split (λ b. b == 32) rest.now in absurd (omega (arith, ap length h)))

-- after fewer numbers than there are the next word is a number
pub next_number : (words left more : List (List ℕ)) (taken ids : List ℕ) → words ≡ map decimal taken ++ left → words ≡ map decimal ids ++ more → length taken < length ids → (rest : List (List ℕ)) × (left ≡ decimal (get_or ids (length taken) 0) ∷ rest)
next_number words left more [] [] e f fewer = absurd (omega arith)
next_number words left more [] (n ∷ ids) e f fewer = (map decimal ids ++ more, sym e ∙ f)
next_number words left more (m ∷ taken) [] e f fewer = absurd (omega arith)
next_number words left more (m ∷ taken) (n ∷ ids) e f fewer =
    let tails : map decimal taken ++ left ≡ map decimal ids ++ more = cc in
    next_number (map decimal taken ++ left) left more taken ids refl tails (omega arith)
