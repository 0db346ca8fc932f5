use Rattle.std.proofs.Common.{◌≡◌, true, length}
use Rattle.std.specs.List.{list_any}
use Rattle.layout_lexer.specs.Layouts.{ending, let_depth, start_of}
use Rattle.layout_lexer.proofs.layout.Layout.end_let.Given as goal

-- a block of `let` is left, and what ends up to it is the same
abbrev pub invariant-loop-block : goal.invariant-loop-block
invariant-loop-block l = record {
  has_let : list_any (λ b. b.by_let) l.self.blocks ≡ true;
  same : ending (let_depth l.self.blocks) l.self (start_of l.token) ≡ ending (let_depth l.initial.self.blocks) l.initial.self (start_of l.token);
}

abbrev pub decreases-loop-block : goal.decreases-loop-block
decreases-loop-block l = length l.self.blocks
