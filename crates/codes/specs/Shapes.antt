-- A code without where its parts lie in memory: its forms, each with the piece of the text that it
-- spells, and what its names stand for.
use Rattle.std.specs.Prelude.{◌==◌, ℕ, List, [], ◌∷◌, if◌then◌else◌}
use Rattle.layout_lexer.specs.declared.token.Span.{Span}
use Rattle.syntax.specs.declared.formula.Projection.{Projection}
use Rattle.codes.specs.FormulaShapes.{FormulaShape, formula_shape}
use Rattle.codes.specs.declared.formula.Equation.{Equation}
use Rattle.codes.specs.declared.code.Code.{Code, Bound as Bound', Defined as Defined', Let'}
use Rattle.codes.specs.declared.code.Code.{Universe as Universe', Nat as Nat', Zero as Zero', Suc'}
use Rattle.codes.specs.declared.code.Code.{NatRec', Pi', Sigma', Lambda', PathLambda', Apply'}
use Rattle.codes.specs.declared.code.Code.{Project', Tuple', PathP', Comp', Fill', Transport'}
use Rattle.codes.specs.declared.code.Code.{GlueType', GlueTerm', Unglue'}
use Rattle.codes.specs.declared.code.Code.{Row_of-Code, end_of-Code, more_of-Code}
use Rattle.codes.specs.declared.code.Code.{Row_of-CodeDef, end_of-CodeDef, more_of-CodeDef}
use Rattle.codes.specs.declared.code.Code.{Row_of-Binder, end_of-Binder, more_of-Binder}
use Rattle.codes.specs.declared.code.Code.{Row_of-Element, end_of-Element, more_of-Element}
use Rattle.codes.specs.declared.code.Code.{Row_of-Side, end_of-Side, more_of-Side}
use Rattle.codes.specs.declared.code.Code.{Row_of-LineSide, end_of-LineSide, more_of-LineSide}
use Rattle.codes.specs.declared.code.Code.{Row_of-PairSide, end_of-PairSide, more_of-PairSide}
use Rattle.codes.specs.declared.code.Element.{Element, Argument as Argument', At as At'}
use Rattle.codes.specs.declared.code.Opened.{Opened, Under as Under', Applied as Applied'}
use Rattle.codes.specs.declared.code.CodeDef.{CodeDef, CodeDef'}
use Rattle.codes.specs.declared.code.Binder.{Binder as BinderOf}
use Rattle.codes.specs.declared.code.Side.{Side as TermSide}
use Rattle.codes.specs.declared.code.LineSide.{LineSide}
use Rattle.codes.specs.declared.code.PairSide.{PairSide as PairSideOf}

mutual
  pub data Shape : Type 0 where
    -- a variable, by its index, and a definition, by its number
    Bound : Span → ℕ → Shape
    Defined : Span → ℕ → Shape
    Universe : Span → Shape
    Nat : Span → Shape
    Zero : Span → Shape
    Let : Span → Shapes → Shape → Shape
    Suc : Span → Shape → Shape
    NatRec : Span → Shape → Shape → Shape → Shape → Shape
    Pi : Span → Shapes → Shape → Shape
    Sigma : Span → Shapes → Shape → Shape
    Lambda : Span → Shapes → Shape → Shape
    PathLambda : Span → ℕ → Shape → Shape
    Apply : Span → Shape → Shapes → Shape
    Project : Span → Shape → List Projection → Shape
    Tuple : Span → Shapes → Shape
    PathP : Span → Shape → Shape → Shape → Shape
    Comp : Span → Shape → Shape → Shapes → Shape
    Fill : Span → Shape → Shape → Shapes → Shape
    Transport : Span → Shape → Shape → Shape
    GlueType : Span → Shape → Shapes → Shape
    GlueTerm : Span → Shape → Shapes → Shape
    Unglue : Span → Shape → Shapes → Shape
    -- an element `@ formula`
    At : Span → FormulaShape → Shape
    -- so many variables, and their type
    Binder : ℕ → Shape → Shape
    -- a line or motive that was opened, and one that is applied
    Under : Span → Shape → Shape
    Applied : Span → Shape → Shape
    -- a side of a system; and what stands on one of `glue`, and on one of `Glue` or `unglue`
    On : List Equation → Shape → Shape
    Side : Span → Shape → Shape
    PairSide : Span → Shape → Shape → Shape
    -- name, number, binders, type, body
    Def : Span → ℕ → Shapes → Shape → Shape → Shape

  pub data Shapes : Type 0 where
    none : Shapes
    more : Shape → Shapes → Shapes

abbrev mutual
  pub shape : Code → Shape
  shape (Bound' s k) = Bound s k
  shape (Defined' s n) = Defined s n
  shape (Let' s m ds p c) = Let s (local_shapes ds) (shape c)
  shape (Universe' s) = Universe s
  shape (Nat' s) = Nat s
  shape (Zero' s) = Zero s
  shape (Suc' s p c) = Suc s (shape c)
  shape (NatRec' s p m q a r b t n) = NatRec s (opened_shape m) (shape a) (shape b) (shape n)
  shape (Pi' s m bs p c) = Pi s (binder_shapes bs) (shape c)
  shape (Sigma' s m bs p c) = Sigma s (binder_shapes bs) (shape c)
  shape (Lambda' s m bs p c) = Lambda s (binder_shapes bs) (shape c)
  shape (PathLambda' s n p c) = PathLambda s n (shape c)
  shape (Apply' s p c m es) = Apply s (shape c) (element_shapes es)
  shape (Project' s p c ps) = Project s (shape c) ps
  shape (Tuple' s m cs) = Tuple s (component_shapes cs)
  shape (PathP' s p l q a r b) = PathP s (opened_shape l) (shape a) (shape b)
  shape (Comp' s p l q a m ss) = Comp s (opened_shape l) (shape a) (line_side_shapes ss)
  shape (Fill' s p l q a m ss) = Fill s (opened_shape l) (shape a) (line_side_shapes ss)
  shape (Transport' s p l q a) = Transport s (opened_shape l) (shape a)
  shape (GlueType' s p a m ss) = GlueType s (shape a) (pair_side_shapes ss)
  shape (GlueTerm' s p a m ss) = GlueTerm s (shape a) (term_side_shapes ss)
  shape (Unglue' s p a m ss) = Unglue s (shape a) (pair_side_shapes ss)

  pub opened_shape : Opened → Shape
  opened_shape (Under' s c) = Under s (shape c)
  opened_shape (Applied' s c) = Applied s (shape c)

  pub component_shapes : {m : _} → Row_of-Code m → Shapes
  component_shapes end_of-Code = none
  component_shapes (more_of-Code c rest) = more (shape c) (component_shapes rest)

  pub binder_shapes : {m : _} → Row_of-Binder m → Shapes
  binder_shapes end_of-Binder = none
  binder_shapes (more_of-Binder n c rest) = more (Binder n (shape c)) (binder_shapes rest)

  pub element_shape : Element → Shape
  element_shape (Argument' c) = shape c
  element_shape (At' s f) = At s (formula_shape f)

  pub element_shapes : {m : _} → Row_of-Element m → Shapes
  element_shapes end_of-Element = none
  element_shapes (more_of-Element e rest) = more (element_shape e) (element_shapes rest)

  pub term_side_shapes : {m : _} → Row_of-Side m → Shapes
  term_side_shapes end_of-Side = none
  term_side_shapes (more_of-Side es s c rest) =
      more (On es.items (Side s (shape c))) (term_side_shapes rest)

  pub line_side_shapes : {m : _} → Row_of-LineSide m → Shapes
  line_side_shapes end_of-LineSide = none
  line_side_shapes (more_of-LineSide es l rest) =
      more (On es.items (opened_shape l)) (line_side_shapes rest)

  pub pair_side_shapes : {m : _} → Row_of-PairSide m → Shapes
  pair_side_shapes end_of-PairSide = none
  pair_side_shapes (more_of-PairSide es s T w rest) =
      more (On es.items (PairSide s (shape T) (shape w))) (pair_side_shapes rest)

  pub def_shape : CodeDef → Shape
  def_shape (CodeDef' x n m bs t c) = Def x n (binder_shapes bs) (shape t) (shape c)

  pub local_shapes : {m : _} → Row_of-CodeDef m → Shapes
  local_shapes end_of-CodeDef = none
  local_shapes (more_of-CodeDef d rest) = more (def_shape d) (local_shapes rest)

-- The same of lists.

abbrev pub listed : {A : Type 0} → (A → Shape) → List A → Shapes
listed f [] = none
listed f (x ∷ xs) = more (f x) (listed f xs)

abbrev pub of_binder : BinderOf → Shape
of_binder b = Binder b.names (shape b.ty)

abbrev pub of_side : TermSide → Shape
of_side s = On s.equations.items (Side s.span (shape s.body))

abbrev pub of_line_side : LineSide → Shape
of_line_side s = On s.equations.items (opened_shape s.body)

abbrev pub of_pair_side : PairSideOf → Shape
of_pair_side s = On s.equations.items (PairSide s.span (shape s.ty) (shape s.equivalence))

-- Over nothing, and with no elements, a form is what stands in it.

abbrev pub lambda : Span → Shapes → Shape → Shape
lambda s none c = c
lambda s (more b bs) c = Lambda s (more b bs) c

abbrev pub path_lambda : Span → ℕ → Shape → Shape
path_lambda s n c = if n == 0 then c else PathLambda s n c

abbrev pub apply : Span → Shape → Shapes → Shape
apply s c none = c
apply s c (more e es) = Apply s c (more e es)

-- `suc` without an argument: `\(x : nat) -> suc x`, all of it where `suc` stands
abbrev pub successor : Span → Shape
successor s = Lambda s (more (Binder 1 (Nat s)) none) (Suc s (Bound s 0))
