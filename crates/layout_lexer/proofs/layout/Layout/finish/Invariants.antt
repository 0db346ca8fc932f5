use Rattle.std.proofs.Common.{◌≡◌, length}
use Rattle.layout_lexer.specs.Layouts.{ending, finished}
use Rattle.layout_lexer.proofs.layout.Layout.finish.Given as goal

abbrev pub invariant-loop-self : goal.invariant-loop-self
invariant-loop-self l = finished l.fn.self (record { at = l.at; column = l.column }) ≡ (ending (length l.self.blocks) l.self (record { at = l.at; column = l.column })).tokens

abbrev pub decreases-loop-self : goal.decreases-loop-self
decreases-loop-self l = length l.self.blocks
