-- What the bytes before a reader spell.
use Rattle.std.proofs.Common.{◌≡◌, ◌≢◌, ℕ, List, [], ◌∷◌, ◌++◌, length, get_or, None, Some, refl, sym, ◌∙◌, ap, arith, length-append}
use Rattle.std.specs.List.{All, join_with_byte}
use Rattle.std.specs.Io.BufRead.{take_through, drop_through}
use Rattle.std.proofs.lemmas.List.{get_or_at}
use Rattle.deriv_file.specs.declared.row.Row.{Row}
use Rattle.deriv_file.specs.Spelling.{words_of, Spells}
use Rattle.deriv_file.specs.Words.{line_words, Reads}
use Rattle.deriv_file.proofs.LineLaws.{first_line, only_line}
use Rattle.deriv_file.proofs.SpellingLaws.{line_of_words, words_of_line}

-- without a newline no row is spelled
pub no_newline : (version at : ℕ) (bytes : List ℕ) → All (λ b. b ≢ 10) bytes → (row : Row) → Spells version at (take_through 10 bytes) row → ⊥
no_newline version at bytes none row spells =
    let line = join_with_byte 32 (words_of row) in
    let whole : bytes ≡ line ++ 10 ∷ [] = sym (only_line bytes none) ∙ spells.0 in
    let last : get_or bytes (length line) 0 ≡ 10 = ap (λ l. get_or l (length line) 0) whole ∙ get_or_at line 10 [] 0 (length line) refl in
    none (length line) 0 (omega (arith, ap length whole, length-append line (10 ∷ []))) last

module _ (version at : ℕ) (bytes line rest : List ℕ) (cut : bytes ≡ line ++ 10 ∷ rest) (none : All (λ b. b ≢ 10) line) where
  line_is : take_through 10 bytes ≡ line ++ 10 ∷ []
  line_is = ap (take_through 10) cut ∙ (first_line line rest none).0

  pub rest_is : drop_through 10 bytes ≡ rest
  rest_is = ap (drop_through 10) cut ∙ (first_line line rest none).1

  -- the words of a row are read
  pub line_spells : (row : Row) → Reads version at (line_words line) (Some row) → Spells version at (take_through 10 bytes) row
  line_spells row reads = (line_is ∙ line_of_words line row reads.0, reads.1)

  -- those of no row
  pub line_spells_none : Reads version at (line_words line) None → (row : Row) → Spells version at (take_through 10 bytes) row → ⊥
  line_spells_none reads row spells = reads row (words_of_line version at line row (sym line_is ∙ spells.0) spells.1) spells.1
