-- A module that is too long.
use Rattle.std.proofs.Common.{◌≡◌, ◌≤◌, ℕ, true, List, length, nat_lt, refl, arith, rules, Err}
use Rattle.layout_lexer.specs.declared.fault.LexFault.TheVariants as lex_fault
use Rattle.layout_lexer.specs.Texts.{tokens_of}
use Rattle.loading.specs.Texts.{HasNoTokens}

-- bytes past the limit have no tokens, since they are too many
pub too_long : (bytes : List ℕ) → 16777217 ≤ length bytes → HasNoTokens bytes lex_fault.TooLong
too_long bytes long = record { fails = fails; known = λ e. cc }
  where
    more : nat_lt 16777216 (length bytes) ≡ true
    more = grind (arith, rules)

    fails : tokens_of bytes ≡ Err lex_fault.TooLong
    fails = rw more refl
