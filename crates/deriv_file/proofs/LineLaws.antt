-- The lines of a file.
use Rattle.std.proofs.Common.{◌≡◌, ◌≢◌, ℕ, ◌<◌, List, [], ◌∷◌, ◌++◌, length, cond, refl, ap, ◌∙◌, arith, ne_eqb}
use Rattle.std.specs.List.{All}
use Rattle.std.specs.Io.BufRead.{take_through, drop_through}
use Rattle.std.proofs.lemmas.List.Elements.{All-head, All-tail}
use Rattle.deriv_file.specs.Lines.{lines}

step_one : (x : ℕ) → lines (x ∷ []) ≡ take_through 10 (x ∷ []) ∷ lines (drop_through 10 (x ∷ []))
step_one x = grind arith

step_more : (x : ℕ) (xs : List ℕ) → lines xs ≡ take_through 10 xs ∷ lines (drop_through 10 xs) → lines (x ∷ xs) ≡ take_through 10 (x ∷ xs) ∷ lines (drop_through 10 (x ∷ xs))
step_more x xs e = grind arith

-- the first line, and the lines of what follows
pub lines_step : (xs : List ℕ) → 0 < length xs → lines xs ≡ take_through 10 xs ∷ lines (drop_through 10 xs)
lines_step [] h = absurd (omega arith)
lines_step (x ∷ []) h = step_one x
lines_step (x ∷ y ∷ ys) h = step_more x (y ∷ ys) (lines_step (y ∷ ys) (omega arith))

shorter_one : (x : ℕ) → length (drop_through 10 (x ∷ [])) < length (x ∷ [])
shorter_one x = grind arith

shorter_more : (x : ℕ) (xs : List ℕ) → length (drop_through 10 xs) < length xs → length (drop_through 10 (x ∷ xs)) < length (x ∷ xs)
shorter_more x xs shorter = grind arith

-- past a line fewer bytes are left
pub length-drop_through-lt : (xs : List ℕ) → 0 < length xs → length (drop_through 10 xs) < length xs
length-drop_through-lt [] h = absurd (omega arith)
length-drop_through-lt (x ∷ []) h = shorter_one x
length-drop_through-lt (x ∷ y ∷ ys) h = shorter_more x (y ∷ ys) (length-drop_through-lt (y ∷ ys) (omega arith))

-- a byte that is no newline stays first
other_byte : (x : ℕ) (xs : List ℕ) → All (λ b. b ≢ 10) (x ∷ xs) → (ys : List ℕ) → (take_through 10 (x ∷ ys) ≡ x ∷ take_through 10 ys) × (drop_through 10 (x ∷ ys) ≡ drop_through 10 ys)
other_byte x xs none ys =
    let e = ne_eqb x 10 (All-head (λ b. b ≢ 10) x xs none) in
    (ap (λ t. cond t (x ∷ []) (x ∷ take_through 10 ys)) e, ap (λ t. cond t ys (drop_through 10 ys)) e)

-- the first line ends at the first newline
pub first_line : (line rest : List ℕ) → All (λ b. b ≢ 10) line → (take_through 10 (line ++ 10 ∷ rest) ≡ line ++ 10 ∷ []) × (drop_through 10 (line ++ 10 ∷ rest) ≡ rest)
first_line [] rest none = (refl, refl)
first_line (x ∷ line) rest none =
    let here = other_byte x line none (line ++ 10 ∷ rest) in
    let more = first_line line rest (All-tail (λ b. b ≢ 10) x line none) in
    (here.0 ∙ ap (λ l. x ∷ l) more.0, here.1 ∙ more.1)

-- with no newline all is one line
pub only_line : (bytes : List ℕ) → All (λ b. b ≢ 10) bytes → take_through 10 bytes ≡ bytes
only_line [] none = refl
only_line (x ∷ bytes) none = (other_byte x bytes none bytes).0 ∙ ap (λ l. x ∷ l) (only_line bytes (All-tail (λ b. b ≢ 10) x bytes none))
