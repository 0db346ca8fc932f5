-- What codes mean: trees in which each definition is replaced by its body.
use Rattle.std.specs.Prelude.{◌==◌, ℕ, List, [], ◌∷◌, map, replicate, if◌then◌else◌}
use Rattle.trees.specs.Trees.{Tree, Var}
use Rattle.codes.specs.declared.formula.Formula.{Formula, Zero as Zero', One as One'}
use Rattle.codes.specs.declared.formula.Formula.{Bound as Bound', Negate', Meet', Join'}
use Rattle.codes.specs.declared.formula.Equation.{Equation}
use Rattle.codes.specs.declared.code.Code.{Code, Bound, Defined, Let', Universe, Nat, Zero, Suc'}
use Rattle.codes.specs.declared.code.Code.{NatRec', Pi', Sigma', Lambda', PathLambda', Apply'}
use Rattle.codes.specs.declared.code.Code.{Project', Tuple', PathP', Comp', Fill', Transport'}
use Rattle.codes.specs.declared.code.Code.{GlueType', GlueTerm', Unglue'}
use Rattle.codes.specs.declared.code.Code.{Row_of-Code, end_of-Code, more_of-Code}
use Rattle.codes.specs.declared.code.Code.{Row_of-CodeDef, end_of-CodeDef, more_of-CodeDef}
use Rattle.codes.specs.declared.code.Code.{Row_of-Binder, end_of-Binder, more_of-Binder}
use Rattle.codes.specs.declared.code.Code.{Row_of-Element, end_of-Element, more_of-Element}
use Rattle.codes.specs.declared.code.Code.{Row_of-Side, end_of-Side, more_of-Side}
use Rattle.codes.specs.declared.code.Code.{Row_of-LineSide, end_of-LineSide, more_of-LineSide}
use Rattle.codes.specs.declared.code.Code.{Row_of-PairSide, end_of-PairSide, more_of-PairSide}
use Rattle.codes.specs.declared.code.Element.{Element, Argument as Argument', At as At'}
use Rattle.codes.specs.declared.code.Opened.{Opened, Under, Applied}
use Rattle.codes.specs.declared.code.CodeDef.{CodeDef, CodeDef'}
use Rattle.codes.specs.declared.code.Binder.{Binder as BinderOf}
use Rattle.codes.specs.declared.code.Side.{Side as TermSide}
use Rattle.codes.specs.declared.code.LineSide.{LineSide}
use Rattle.codes.specs.declared.code.PairSide.{PairSide}
use Rattle.translation.specs.Terms.{i0, i1, neg, min, max, universe, nat, zero, suc, natrec}
use Rattle.translation.specs.Terms.{pi, sig, lam, lifted}
use Rattle.translation.specs.Scopes.{Variable, Interval, Face, Definition, Scope}
use Rattle.translation.specs.Translated.{done, ◌>>=◌, ◌>>◌}
use Rattle.translation.specs.Forms.{Means, Binder, Element as ElementOf, Argument, At, Side}
use Rattle.translation.specs.Forms.{one, two, under, under_names, project, tuple, path_type}
use Rattle.translation.specs.Forms.{applied_to_name, applied_to_variable, application}
use Rattle.translation.specs.Forms.{equation, composition, transport, fill, unglued}
use Rattle.translation.specs.Forms.{glue_of_types, glue_of_terms, after, defined, define}

-- Variables and names of the interval go by index, and are called 0 here; definitions by number.

-- the body of the definition of this number, weakened to the place
abbrev pub body_of : Scope ℕ → ℕ → Tree
body_of [] n = universe
body_of (Variable x A ∷ G) n = lifted (body_of G n)
body_of (Interval x ∷ G) n = lifted (body_of G n)
body_of (Face p ∷ G) n = body_of G n
body_of (Definition m t ∷ G) n = if m == n then t else body_of G n

abbrev pub formula : Formula → Means ℕ Tree
formula (Zero' s) G = done i0
formula (One' s) G = done i1
formula (Bound' s k) G = done (Var k)
formula (Negate' s p f) G = one neg (formula f) G
formula (Meet' s p f q g) G = two min (formula f) (formula g) G
formula (Join' s p f q g) G = two max (formula f) (formula g) G

abbrev pub equations : List Equation → List (Means ℕ Tree)
equations = map (λ e. equation e.end (λ G. done (Var e.index)))

-- `natrec` of a tree over a variable and three trees
abbrev pub recursion : Means ℕ Tree → Means ℕ Tree → Means ℕ Tree → Means ℕ Tree → Means ℕ Tree
recursion motive base step n G = do
  P ← motive G
  a ← base G
  b ← step G
  k ← n G
  done (natrec P a b k)

abbrev pub both : Means ℕ Tree → Means ℕ Tree → Means ℕ (Tree × Tree)
both a b G = do
  x ← a G
  y ← b G
  done (x, y)

abbrev pub and_then : Means ℕ (Scope ℕ) → Means ℕ (Scope ℕ) → Means ℕ (Scope ℕ)
and_then first second G = do
  H ← first G
  second H

-- so many variables of a type
abbrev pub binder_of : ℕ → Means ℕ Tree → Binder ℕ
binder_of n type = record { names = replicate n 0; type = type }

abbrev pub side_of : {A : Type 0} → List Equation → Means ℕ A → Side ℕ A
side_of es value = record { equations = equations es; value = value }

abbrev mutual
  pub meaning : Code → Means ℕ Tree
  meaning (Bound s k) = λ G. done (Var k)
  meaning (Defined s n) = λ G. done (body_of G n)
  meaning (Let' s shape ds p c) = after (locals ds) (meaning c)
  meaning (Universe s) = λ G. done universe
  meaning (Nat s) = λ G. done nat
  meaning (Zero s) = λ G. done zero
  meaning (Suc' s p c) = one suc (meaning c)
  meaning (NatRec' s p m q a r b t n) =
      recursion (at_variable m) (meaning a) (meaning b) (meaning n)
  meaning (Pi' s shape bs p c) = under pi (binders bs) (meaning c)
  meaning (Sigma' s shape bs p c) = under sig (binders bs) (meaning c)
  meaning (Lambda' s shape bs p c) = under lam (binders bs) (meaning c)
  meaning (PathLambda' s n p c) = under_names (replicate n 0) (meaning c)
  meaning (Apply' s p c shape es) = application (meaning c) (elements es)
  meaning (Project' s p c ps) = one (λ t. project t ps) (meaning c)
  meaning (Tuple' s shape cs) = tuple (components cs)
  meaning (PathP' s p l q a r b) = path_type (at_name l) (meaning a) (meaning b)
  meaning (Comp' s p l q a shape ss) = composition (at_name l) (meaning a) (line_sides ss)
  meaning (Fill' s p l q a shape ss) = fill (at_name l) (meaning a) (line_sides ss)
  meaning (Transport' s p l q a) = transport (at_name l) (meaning a)
  meaning (GlueType' s p a shape ss) = glue_of_types (meaning a) (pair_sides ss)
  meaning (GlueTerm' s p a shape ss) = glue_of_terms (meaning a) (term_sides ss)
  meaning (Unglue' s p a shape ss) = unglued (meaning a) (pair_sides ss)

  -- a line, as a tree over its name
  pub at_name : Opened → Means ℕ Tree
  at_name (Under s c) = λ G. meaning c (Interval 0 ∷ G)
  at_name (Applied s c) = applied_to_name (meaning c)

  -- a motive, as a tree over its variable
  pub at_variable : Opened → Means ℕ Tree
  at_variable (Under s c) = λ G. meaning c (Variable 0 nat ∷ G)
  at_variable (Applied s c) = applied_to_variable (meaning c)

  pub components : {m : _} → Row_of-Code m → List (Means ℕ Tree)
  components end_of-Code = []
  components (more_of-Code c rest) = meaning c ∷ components rest

  pub binders : {m : _} → Row_of-Binder m → List (Binder ℕ)
  binders end_of-Binder = []
  binders (more_of-Binder n c rest) = binder_of n (meaning c) ∷ binders rest

  pub element : Element → ElementOf ℕ
  element (Argument' c) = Argument (meaning c)
  element (At' s f) = At (formula f)

  pub elements : {m : _} → Row_of-Element m → List (ElementOf ℕ)
  elements end_of-Element = []
  elements (more_of-Element e rest) = element e ∷ elements rest

  pub term_sides : {m : _} → Row_of-Side m → List (Side ℕ Tree)
  term_sides end_of-Side = []
  term_sides (more_of-Side es s c rest) = side_of es.items (meaning c) ∷ term_sides rest

  pub line_sides : {m : _} → Row_of-LineSide m → List (Side ℕ Tree)
  line_sides end_of-LineSide = []
  line_sides (more_of-LineSide es l rest) = side_of es.items (at_name l) ∷ line_sides rest

  pub pair_sides : {m : _} → Row_of-PairSide m → List (Side ℕ (Tree × Tree))
  pair_sides end_of-PairSide = []
  pair_sides (more_of-PairSide es s T w rest) =
      side_of es.items (both (meaning T) (meaning w)) ∷ pair_sides rest

  -- the scope after a definition
  pub definition : CodeDef → Means ℕ (Scope ℕ)
  definition (CodeDef' x n shape bs t c) =
      define n (defined (binders bs) (meaning t) done (meaning c))

  pub locals : {m : _} → Row_of-CodeDef m → Means ℕ (Scope ℕ)
  locals end_of-CodeDef = λ G. done G
  locals (more_of-CodeDef d rest) = and_then (definition d) (locals rest)

-- The same of lists.

abbrev pub binder : BinderOf → Binder ℕ
binder b = binder_of b.names (meaning b.ty)

abbrev pub term_side : TermSide → Side ℕ Tree
term_side s = side_of s.equations.items (meaning s.body)

abbrev pub line_side : LineSide → Side ℕ Tree
line_side s = side_of s.equations.items (at_name s.body)

abbrev pub pair_side : PairSide → Side ℕ (Tree × Tree)
pair_side s = side_of s.equations.items (both (meaning s.ty) (meaning s.equivalence))

abbrev pub definitions : List CodeDef → Means ℕ (Scope ℕ)
definitions [] = λ G. done G
definitions (d ∷ ds) = and_then (definition d) (definitions ds)
