use Rattle.std.proofs.Common.{◌≡◌, length}
use Rattle.layout_lexer.specs.Scanning.{closed}
use Rattle.layout_lexer.proofs.pieces.skip_block.Given as goal

abbrev pub invariant-loop-c : goal.invariant-loop-c
invariant-loop-c l = closed l.cursor ≡ closed l.initial.cursor

abbrev pub decreases-loop-c : goal.decreases-loop-c
decreases-loop-c l = length l.cursor.rest
