use Rattle.std.proofs.Common.{◌≡◌, ◌≤◌, length}
use Rattle.layout_lexer.specs.Scanning.{tokens_left, end_of}
use Rattle.layout_lexer.proofs.scanner.next_token.Given as goal

-- space and comments were read so far
abbrev pub invariant-pieces : goal.invariant-pieces
invariant-pieces l = record {
  tokens : tokens_left l.cursor ≡ tokens_left l.initial.cursor;
  end : end_of l.cursor ≡ end_of l.initial.cursor;
  size : length l.cursor.rest ≤ length l.initial.cursor.rest;
}

abbrev pub decreases-pieces : goal.decreases-pieces
decreases-pieces l = length l.cursor.rest
