-- Which form a text has: of another one it is absurd.
use Rattle.std.specs.Prelude.{◌≡◌, Box, List}
use Rattle.std.specs.Global.{Global}
use Rattle.layout_lexer.specs.declared.token.Span.{Span}
use Rattle.syntax.specs.declared.formula.Projection.{Projection}
use Rattle.syntax.specs.declared.exp.Exp.{Exp, Let, Lambda, PathLambda, Pi, Sigma, Arrow, Apply}
use Rattle.syntax.specs.declared.exp.Exp.{PathP, Comp, Fill, Transport, GlueType, GlueTerm, Unglue}
use Rattle.syntax.specs.declared.exp.Exp.{Project}
use Rattle.syntax.specs.declared.exp.Defs.{Defs}
use Rattle.syntax.specs.declared.exp.Teles.{Teles}
use Rattle.syntax.specs.declared.exp.Sides.{Sides}
use Rattle.syntax.specs.declared.exp.Elements.{Elements}

abbrev pub Part : Type 0
Part = Box Exp Global

abbrev pub IsLet : Exp → Type 0
IsLet e = ((s : Span) (ds : Defs) (b : Part) → e ≡ Let s ds b → ⊥) → ⊥

abbrev pub IsLambda : Exp → Type 0
IsLambda e = ((s : Span) (xs : Teles) (b : Part) → e ≡ Lambda s xs b → ⊥) → ⊥

abbrev pub IsPi : Exp → Type 0
IsPi e = ((s : Span) (xs : Teles) (b : Part) → e ≡ Pi s xs b → ⊥) → ⊥

abbrev pub IsSigma : Exp → Type 0
IsSigma e = ((s : Span) (xs : Teles) (b : Part) → e ≡ Sigma s xs b → ⊥) → ⊥

abbrev pub IsPathLambda : Exp → Type 0
IsPathLambda e = ((s : Span) (ns : List Span) (b : Part) → e ≡ PathLambda s ns b → ⊥) → ⊥

abbrev pub IsArrow : Exp → Type 0
IsArrow e = ((s : Span) (a b : Part) → e ≡ Arrow s a b → ⊥) → ⊥

abbrev pub IsApply : Exp → Type 0
IsApply e = ((s : Span) (f : Part) (es : Elements) → e ≡ Apply s f es → ⊥) → ⊥

abbrev pub IsProject : Exp → Type 0
IsProject e = ((s : Span) (a : Part) (ps : List Projection) → e ≡ Project s a ps → ⊥) → ⊥

abbrev pub IsPathType : Exp → Type 0
IsPathType e = ((s : Span) (l a b : Part) → e ≡ PathP s l a b → ⊥) → ⊥

abbrev pub IsComp : Exp → Type 0
IsComp e = ((s : Span) (l a : Part) (ss : Sides) → e ≡ Comp s l a ss → ⊥) → ⊥

abbrev pub IsFill : Exp → Type 0
IsFill e = ((s : Span) (l a : Part) (ss : Sides) → e ≡ Fill s l a ss → ⊥) → ⊥

abbrev pub IsTransport : Exp → Type 0
IsTransport e = ((s : Span) (l a : Part) → e ≡ Transport s l a → ⊥) → ⊥

abbrev pub IsGlueType : Exp → Type 0
IsGlueType e = ((s : Span) (a : Part) (ss : Sides) → e ≡ GlueType s a ss → ⊥) → ⊥

abbrev pub IsGlueTerm : Exp → Type 0
IsGlueTerm e = ((s : Span) (a : Part) (ss : Sides) → e ≡ GlueTerm s a ss → ⊥) → ⊥

abbrev pub IsUnglue : Exp → Type 0
IsUnglue e = ((s : Span) (a : Part) (ss : Sides) → e ≡ Unglue s a ss → ⊥) → ⊥
