-- Where comments end.
use Rattle.std.proofs.Common.{◌≡◌, ℕ, zero, suc, ◌<◌, ◌≤◌, Bool, true, false, cond, List, [], ◌∷◌, length, take, refl, sym, ◌∙◌, ap, subst, arith, Some, None, Option, option_map, true≢false}
use Rattle.layout_lexer.specs.Pieces.{begins, is_one, ends_with_close}
use Rattle.layout_lexer.specs.Scanning.{close_len}

-- the characters up to and with the first `-}` are these many, of those that there are
pub record Closes (v : List ℕ) (n : ℕ) : Type 0 where
  pub two : 2 ≤ n
  pub within : n ≤ length v
  pub here : ends_with_close (take n v) ≡ true
  pub alone : (m : ℕ) → n < m → m ≤ length v → ends_with_close (take m v) ≡ false

never : (c : ℕ) (cs : List ℕ) → begins 45 125 (c ∷ cs) ≡ false → (m : ℕ) → begins 45 125 (c ∷ take m cs) ≡ false
never c cs h zero = refl
never c [] h (suc m) = refl
never c (d ∷ ds) h (suc m) = h

-- after a character that begins no `-}`
later : (c : ℕ) (cs : List ℕ) → begins 45 125 (c ∷ cs) ≡ false → (m : ℕ) → ends_with_close (take (suc m) (c ∷ cs)) ≡ ends_with_close (take m cs)
later c cs h m = ap (λ b. cond b (is_one (take m cs)) (ends_with_close (take m cs))) (never c cs h m)

closes-later : (c : ℕ) (cs : List ℕ) (n : ℕ) → begins 45 125 (c ∷ cs) ≡ false → Closes cs n → Closes (c ∷ cs) (suc n)
closes-later c cs n h closes = record {
  two = omega (arith, closes.two);
  within = omega (arith, closes.within);
  here = later c cs h n ∙ closes.here;
  alone = λ m above within. by m above within;
}
  where
    by : (m : ℕ) → suc n < m → m ≤ suc (length cs) → ends_with_close (take m (c ∷ cs)) ≡ false
    by zero above within = absurd (omega arith)
    by (suc m) above within = later c cs h m ∙ closes.alone m (omega arith) (omega arith)

closes-here : (c : ℕ) (cs : List ℕ) → begins 45 125 (c ∷ cs) ≡ true → Closes (c ∷ cs) 2
closes-here c [] h = absurd (true≢false (sym h))
closes-here c (d ∷ ds) h = record {
  two = omega arith;
  within = omega arith;
  here = ap (λ b. cond b true (ends_with_close (d ∷ []))) h;
  alone = by ds;
}
  where
    by : (ds : List ℕ) (m : ℕ) → 2 < m → m ≤ suc (suc (length ds)) → ends_with_close (take m (c ∷ d ∷ ds)) ≡ false
    by ds zero above within = absurd (omega arith)
    by ds (suc zero) above within = absurd (omega arith)
    by ds (suc (suc zero)) above within = absurd (omega arith)
    by [] (suc (suc (suc m))) above within = absurd (omega arith)
    by (e ∷ es) (suc (suc (suc m))) above within =
        ap (λ b. cond b false (ends_with_close (d ∷ e ∷ take m es))) h

pub closes : (v : List ℕ) (n : ℕ) → close_len v ≡ Some n → Closes v n
closes [] n h = absurd (cc)
closes (c ∷ cs) n h = by (begins 45 125 (c ∷ cs)) (close_len cs) refl refl h (closes cs)
  where
    by : (b : Bool) (len : Option ℕ) → begins 45 125 (c ∷ cs) ≡ b → close_len cs ≡ len → cond b (Some 2) (option_map suc len) ≡ Some n → ((k : ℕ) → close_len cs ≡ Some k → Closes cs k) → Closes (c ∷ cs) n
    by true len f e h rest = let same : 2 ≡ n = cc in subst (Closes (c ∷ cs)) same (closes-here c cs f)
    by false None f e h rest = absurd (cc)
    by false (Some k) f e h rest =
        let same : suc k ≡ n = cc in
        subst (Closes (c ∷ cs)) same (closes-later c cs k f (rest k e))

-- without a `-}` no prefix ends with one
pub never_closes : (v : List ℕ) → close_len v ≡ None → (m : ℕ) → ends_with_close (take m v) ≡ false
never_closes v h zero = refl
never_closes [] h (suc m) = refl
never_closes (c ∷ cs) h (suc m) = by (begins 45 125 (c ∷ cs)) (close_len cs) refl refl h (λ e. never_closes cs e m)
  where
    by : (b : Bool) (len : Option ℕ) → begins 45 125 (c ∷ cs) ≡ b → close_len cs ≡ len → cond b (Some 2) (option_map suc len) ≡ None → (close_len cs ≡ None → ends_with_close (take m cs) ≡ false) → ends_with_close (take (suc m) (c ∷ cs)) ≡ false
    by true len f e h rest = absurd (cc)
    by false None f e h rest = later c cs f m ∙ rest e
    by false (Some k) f e h rest = absurd (cc)
