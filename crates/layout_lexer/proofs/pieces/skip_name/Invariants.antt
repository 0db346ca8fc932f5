use Rattle.std.proofs.Common.{◌≡◌, length}
use Rattle.std.specs.List.{prefix_len}
use Rattle.layout_lexer.specs.Places.{moved}
use Rattle.layout_lexer.specs.Pieces.{continues_name}
use Rattle.layout_lexer.proofs.pieces.skip_name.Given as goal

abbrev pub invariant-loop-c : goal.invariant-loop-c
invariant-loop-c l = moved (prefix_len continues_name l.cursor.rest) l.cursor ≡ moved (prefix_len continues_name l.initial.cursor.rest) l.initial.cursor

abbrev pub decreases-loop-c : goal.decreases-loop-c
decreases-loop-c l = length l.cursor.rest
