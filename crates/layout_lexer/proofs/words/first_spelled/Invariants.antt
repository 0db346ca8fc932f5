use Rattle.std.proofs.Common.{◌≡◌, ℕ, true, drop}
use Rattle.layout_lexer.specs.Words.{rises}
use Rattle.layout_lexer.specs.Pieces.{spelled_in}
use Rattle.layout_lexer.proofs.words.first_spelled.Given as goal

-- none of those so far
abbrev pub invariant-loop-kind : goal.invariant-loop-kind
invariant-loop-kind l = record {
  same : spelled_in l.kinds l.text ≡ spelled_in (drop l.kind-index l.kinds) l.text;
  rising : (least : ℕ) × (rises least (drop l.kind-index l.kinds) ≡ true);
}
