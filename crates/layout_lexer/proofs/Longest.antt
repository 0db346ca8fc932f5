-- The longest piece that a text begins with.
use Rattle.std.proofs.Common.{◌≡◌, ℕ, zero, suc, ◌<◌, ◌≤◌, Bool, true, false, cond, ◌⊎◌, inl, inr, List, length, take, refl, sym, ◌∙◌, true≢false, arith}
use Rattle.std.proofs.Math.Nat.{eq-or-lt_of_le}
use Rattle.layout_lexer.specs.Pieces.{is_piece, longest, piece_len}

-- one prefix passes, unless it is empty, and none that is longer
pub longest-is : (p : List ℕ → Bool) (n size : ℕ) (text : List ℕ) → n ≤ size → (0 < n → p (take n text) ≡ true) → ((m : ℕ) → n < m → m ≤ size → p (take m text) ≡ false) → longest p size text ≡ n
longest-is p n zero text h passes fails = omega arith
longest-is p n (suc k) text h passes fails =
    by (p (take (suc k) text)) refl (eq-or-lt_of_le h) (λ below. longest-is p n k text below passes (λ m above within. fails m above (omega arith)))
  where
    by : (b : Bool) → p (take (suc k) text) ≡ b → (n ≡ suc k) ⊎ (n < suc k) → (n ≤ k → longest p k text ≡ n) → cond b (suc k) (longest p k text) ≡ n
    by true e (inl same) rest = sym same
    by true e (inr below) rest = absurd (true≢false (sym e ∙ fails (suc k) below (omega arith)))
    by false e (inl same) rest =
        let long : p (take (suc k) text) ≡ true = rw (← same) (passes (omega arith)) in
        absurd (true≢false (sym long ∙ e))
    by false e (inr below) rest = rest (omega arith)

pub piece_len-is : (n : ℕ) (text : List ℕ) → n ≤ length text → (0 < n → is_piece (take n text) ≡ true) → ((m : ℕ) → n < m → m ≤ length text → is_piece (take m text) ≡ false) → piece_len text ≡ n
piece_len-is n text h passes fails = longest-is is_piece n (length text) text h passes fails
