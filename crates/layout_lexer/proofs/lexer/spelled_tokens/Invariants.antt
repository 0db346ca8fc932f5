use Rattle.std.proofs.Common.{◌≡◌, chars, length}
use Rattle.layout_lexer.specs.Scanning.{tokens_left, end_of}
use Rattle.layout_lexer.specs.Texts.{spelled_tokens, continued}
use Rattle.layout_lexer.proofs.lexer.spelled_tokens.Given as goal

-- the tokens of the text are those that are laid out and those of what is left
abbrev pub invariant-loop-layout : goal.invariant-loop-layout
invariant-loop-layout l = spelled_tokens (chars l.text) ≡ continued l.layout (end_of l.cursor) (tokens_left l.cursor)

abbrev pub decreases-loop-layout : goal.decreases-loop-layout
decreases-loop-layout l = length l.cursor.rest
