use Rattle.std.proofs.Common.{◌≡◌, length}
use Rattle.layout_lexer.specs.Layouts.{ending, right_of, start_of}
use Rattle.layout_lexer.proofs.layout.Layout.end_right_of.Given as goal

abbrev pub invariant-loop-token : goal.invariant-loop-token
invariant-loop-token l = ending (right_of l.token.column l.self.blocks) l.self (start_of l.token) ≡ ending (right_of l.token.column l.initial.self.blocks) l.initial.self (start_of l.token)

abbrev pub decreases-loop-token : goal.decreases-loop-token
decreases-loop-token l = length l.self.blocks
