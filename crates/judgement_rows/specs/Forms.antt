-- Which form a code has: of another one it is absurd.
use Rattle.std.specs.Prelude.{◌≡◌, ℕ, Box, Vec}
use Rattle.std.specs.Global.{Global}
use Rattle.layout_lexer.specs.declared.token.Span.{Span}
use Rattle.syntax.specs.declared.formula.Projections.{Projections}
use Rattle.codes.specs.declared.code.Code.{Code, Let, Suc, NatRec, Pi, Sigma, Lambda}
use Rattle.codes.specs.declared.code.Code.{PathLambda, Apply, Project, Tuple, PathP, Comp, Fill}
use Rattle.codes.specs.declared.code.Code.{Transport, GlueType, GlueTerm, Unglue}
use Rattle.codes.specs.declared.code.Binder.{Binder}
use Rattle.codes.specs.declared.code.CodeDef.{CodeDef}
use Rattle.codes.specs.declared.code.Element.{Element}
use Rattle.codes.specs.declared.code.LineSide.{LineSide}
use Rattle.codes.specs.declared.code.Opened.{Opened}
use Rattle.codes.specs.declared.code.PairSide.{PairSide}
use Rattle.codes.specs.declared.code.Side.{Side}

abbrev pub Part : Type 0
Part = Box Code Global

abbrev pub Line : Type 0
Line = Box Opened Global

abbrev pub Parts : Type 0 → Type 0
Parts A = Vec A Global

abbrev pub IsLet : Code → Type 0
IsLet c = ((s : Span) (ds : Parts CodeDef) (b : Part) → c ≡ Let s ds b → ⊥) → ⊥

abbrev pub IsSuc : Code → Type 0
IsSuc c = ((s : Span) (a : Part) → c ≡ Suc s a → ⊥) → ⊥

abbrev pub IsNatRec : Code → Type 0
IsNatRec c = ((s : Span) (m : Line) (a b n : Part) → c ≡ NatRec s m a b n → ⊥) → ⊥

abbrev pub IsPi : Code → Type 0
IsPi c = ((s : Span) (bs : Parts Binder) (b : Part) → c ≡ Pi s bs b → ⊥) → ⊥

abbrev pub IsSigma : Code → Type 0
IsSigma c = ((s : Span) (bs : Parts Binder) (b : Part) → c ≡ Sigma s bs b → ⊥) → ⊥

abbrev pub IsLambda : Code → Type 0
IsLambda c = ((s : Span) (bs : Parts Binder) (b : Part) → c ≡ Lambda s bs b → ⊥) → ⊥

abbrev pub IsPathLambda : Code → Type 0
IsPathLambda c = ((s : Span) (n : ℕ) (b : Part) → c ≡ PathLambda s n b → ⊥) → ⊥

abbrev pub IsApply : Code → Type 0
IsApply c = ((s : Span) (h : Part) (es : Parts Element) → c ≡ Apply s h es → ⊥) → ⊥

abbrev pub IsProject : Code → Type 0
IsProject c = ((s : Span) (a : Part) (ps : Projections) → c ≡ Project s a ps → ⊥) → ⊥

abbrev pub IsTuple : Code → Type 0
IsTuple c = ((s : Span) (cs : Parts Code) → c ≡ Tuple s cs → ⊥) → ⊥

abbrev pub IsPathType : Code → Type 0
IsPathType c = ((s : Span) (l : Line) (a b : Part) → c ≡ PathP s l a b → ⊥) → ⊥

abbrev pub IsComp : Code → Type 0
IsComp c = ((s : Span) (l : Line) (a : Part) (ss : Parts LineSide) → c ≡ Comp s l a ss → ⊥) → ⊥

abbrev pub IsFill : Code → Type 0
IsFill c = ((s : Span) (l : Line) (a : Part) (ss : Parts LineSide) → c ≡ Fill s l a ss → ⊥) → ⊥

abbrev pub IsTransport : Code → Type 0
IsTransport c = ((s : Span) (l : Line) (a : Part) → c ≡ Transport s l a → ⊥) → ⊥

abbrev pub IsGlueType : Code → Type 0
IsGlueType c = ((s : Span) (a : Part) (ss : Parts PairSide) → c ≡ GlueType s a ss → ⊥) → ⊥

abbrev pub IsGlueTerm : Code → Type 0
IsGlueTerm c = ((s : Span) (a : Part) (ss : Parts Side) → c ≡ GlueTerm s a ss → ⊥) → ⊥

abbrev pub IsUnglue : Code → Type 0
IsUnglue c = ((s : Span) (a : Part) (ss : Parts PairSide) → c ≡ Unglue s a ss → ⊥) → ⊥
