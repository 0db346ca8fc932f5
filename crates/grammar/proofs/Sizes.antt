-- Texts that have tokens are short.
use Rattle.std.proofs.Common.{ℕ, ◌≡◌, ◌≤◌, Bool, true, false, cond, List, length, nat_lt, Ok, Err, refl, arith}
use Rattle.std.proofs.lemmas.Bool.Decides.{nat_tests}
use Rattle.std.specs.Str.{chars, is_utf8}
use Rattle.std.specs.Str.Lossy.{utf8_valid_len}
use Rattle.layout_lexer.specs.declared.fault.LexFault.TheVariants.{TooLong, NotUtf8}
use Rattle.layout_lexer.specs.declared.token.Token.{Token}
use Rattle.layout_lexer.specs.Texts.{spelled_tokens, tokens_of}

short_if : (n : ℕ) → nat_lt 16777216 n ≡ false → n ≤ 16777216
short_if n h = grind (arith, nat_tests)

pub short : (bytes : List ℕ) (tokens : List Token) → tokens_of bytes ≡ Ok tokens → length bytes ≤ 16777216
short bytes tokens h = by (nat_lt 16777216 (length bytes)) refl h
  where
    by : (long : Bool) → nat_lt 16777216 (length bytes) ≡ long
        → cond long (Err TooLong) (cond (is_utf8 bytes) (spelled_tokens (chars bytes)) (Err (NotUtf8 (utf8_valid_len bytes)))) ≡ Ok tokens
        → length bytes ≤ 16777216
    by true e eq = absurd (cc)
    by false e eq = short_if (length bytes) e
