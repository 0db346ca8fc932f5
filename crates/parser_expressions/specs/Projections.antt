-- Tokens that are projections.
use Rattle.std.specs.Prelude.{◌≡◌, Option, Some, None}
use Rattle.layout_lexer.specs.declared.token.Span.{Span}
use Rattle.syntax.specs.declared.formula.Projection.{Projection}
use Rattle.productions.specs.Words as W
use Rattle.productions.specs.Grammar.{half}

abbrev pub IsNoDot : W.Word → Type 0
IsNoDot (W.Dot h) = ⊥
IsNoDot w = Unit {0}

-- the projection that a token with this span is
abbrev pub IsProjection : W.Word → Span → Option Projection → Type 0
IsProjection w s (Some h) = (x : W.Half) × (w ≡ W.Dot x) × (h ≡ half x s)
IsProjection w s None = IsNoDot w
