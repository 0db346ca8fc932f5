-- What a code means is of its shape.
use Rattle.std.proofs.Common.{◌≡◌, ℕ, List, [], ◌∷◌, replicate, refl, sym, ◌∙◌, ap, ap₂}
use Rattle.trees.specs.Trees.{Tree, Var}
use Rattle.codes.specs.declared.formula.Formula.{Formula, Zero as Zero', One as One', Bound as Bound', Negate', Meet', Join'}
use Rattle.codes.specs.FormulaShapes as form
use Rattle.codes.specs.FormulaShapes.{FormulaShape, formula_shape}
use Rattle.codes.specs.declared.code.Code.{Code, Bound as Bound', Defined as Defined', Let', Universe as Universe', Nat as Nat', Zero as Zero', Suc'}
use Rattle.codes.specs.declared.code.Code.{NatRec', Pi', Sigma', Lambda', PathLambda', Apply', Project', Tuple', PathP', Comp', Fill', Transport'}
use Rattle.codes.specs.declared.code.Code.{GlueType', GlueTerm', Unglue'}
use Rattle.codes.specs.declared.code.Code.{Row_of-Code, end_of-Code, more_of-Code, Row_of-CodeDef, end_of-CodeDef, more_of-CodeDef}
use Rattle.codes.specs.declared.code.Code.{Row_of-Binder, end_of-Binder, more_of-Binder, Row_of-Element, end_of-Element, more_of-Element}
use Rattle.codes.specs.declared.code.Code.{Row_of-Side, end_of-Side, more_of-Side, Row_of-LineSide, end_of-LineSide, more_of-LineSide}
use Rattle.codes.specs.declared.code.Code.{Row_of-PairSide, end_of-PairSide, more_of-PairSide}
use Rattle.codes.specs.declared.code.Element.{Argument as Argument', At as At'}
use Rattle.codes.specs.declared.code.Opened.{Opened, Under as Under', Applied as Applied'}
use Rattle.codes.specs.declared.code.CodeDef.{CodeDef, CodeDef'}
use Rattle.codes.specs.Codes.{body_of, formula, recursion, both, and_then, binder_of, side_of}
use Rattle.codes.specs.Codes.{meaning, at_name, at_variable, components, binders, elements, term_sides, line_sides, pair_sides, definition, locals}
use Rattle.codes.specs.Shapes
use Rattle.codes.specs.Shapes.{Shape, none, more, Bound, Defined, Universe, Nat, Zero, Let, Suc, NatRec, Pi, Sigma, Lambda, PathLambda, Apply, Project}
use Rattle.codes.specs.Shapes.{Tuple, PathP, Comp, Fill, Transport, GlueType, GlueTerm, Unglue, At, Binder, Under, Applied, On, Side, PairSide, Def}
use Rattle.codes.specs.Shapes.{shape, opened_shape, component_shapes, binder_shapes, element_shapes, term_side_shapes, line_side_shapes}
use Rattle.codes.specs.Shapes.{pair_side_shapes, def_shape, local_shapes}
use Rattle.translation.specs.Terms.{i0, i1, neg, min, max, universe, nat, zero, suc, pi, sig, lam}
use Rattle.translation.specs.Scopes as scope
use Rattle.translation.specs.Scopes.{Scope}
use Rattle.translation.specs.Translated.{done}
use Rattle.translation.specs.Forms.{Means, Binder as BinderOf, Element as ElementOf, Argument, At as AtOf, Side as SideOf}
use Rattle.translation.specs.Forms.{one, two, under, under_names, project, tuple, path_type, applied_to_name, applied_to_variable, application}
use Rattle.translation.specs.Forms.{composition, transport, fill, unglued, glue_of_types, glue_of_terms, after, defined, define}

pub ap₃ : {A B C D : Type 0} (f : A → B → C → D) {a a' : A} {b b' : B} {c c' : C} → a ≡ a' → b ≡ b' → c ≡ c' → f a b c ≡ f a' b' c'
ap₃ f p q r = cc

pub ap₄ : {A B C D E : Type 0} (f : A → B → C → D → E) {a a' : A} {b b' : B} {c c' : C} {d d' : D} → a ≡ a' → b ≡ b' → c ≡ c' → d ≡ d' → f a b c d ≡ f a' b' c' d'
ap₄ f p q r s = cc

-- The meaning of a shape. Of a shape that is no code it says nothing.

abbrev nothing : {A : Type 0} → A → Means ℕ A
nothing a G = done a

abbrev pub formula_of : FormulaShape → Means ℕ Tree
formula_of (form.Zero s) G = done i0
formula_of (form.One s) G = done i1
formula_of (form.Bound s k) G = done (Var k)
formula_of (form.Negate s f) G = one neg (formula_of f) G
formula_of (form.Meet s f g) G = two min (formula_of f) (formula_of g) G
formula_of (form.Join s f g) G = two max (formula_of f) (formula_of g) G

abbrev mutual
  pub meaning_of : Shape → Means ℕ Tree
  meaning_of (Bound s k) = λ G. done (Var k)
  meaning_of (Defined s n) = λ G. done (body_of G n)
  meaning_of (Universe s) = λ G. done universe
  meaning_of (Nat s) = λ G. done nat
  meaning_of (Zero s) = λ G. done zero
  meaning_of (Let s ds c) = after (locals_of ds) (meaning_of c)
  meaning_of (Suc s c) = one suc (meaning_of c)
  meaning_of (NatRec s m a b n) = recursion (variable_of m) (meaning_of a) (meaning_of b) (meaning_of n)
  meaning_of (Pi s bs c) = under pi (binders_of bs) (meaning_of c)
  meaning_of (Sigma s bs c) = under sig (binders_of bs) (meaning_of c)
  meaning_of (Lambda s bs c) = under lam (binders_of bs) (meaning_of c)
  meaning_of (PathLambda s n c) = under_names (replicate n 0) (meaning_of c)
  meaning_of (Apply s c es) = application (meaning_of c) (elements_of es)
  meaning_of (Project s c ps) = one (λ t. project t ps) (meaning_of c)
  meaning_of (Tuple s cs) = tuple (components_of cs)
  meaning_of (PathP s l a b) = path_type (name_of l) (meaning_of a) (meaning_of b)
  meaning_of (Comp s l a ss) = composition (name_of l) (meaning_of a) (line_sides_of ss)
  meaning_of (Fill s l a ss) = fill (name_of l) (meaning_of a) (line_sides_of ss)
  meaning_of (Transport s l a) = transport (name_of l) (meaning_of a)
  meaning_of (GlueType s a ss) = glue_of_types (meaning_of a) (pair_sides_of ss)
  meaning_of (GlueTerm s a ss) = glue_of_terms (meaning_of a) (term_sides_of ss)
  meaning_of (Unglue s a ss) = unglued (meaning_of a) (pair_sides_of ss)
  meaning_of _ = nothing universe

  pub name_of : Shape → Means ℕ Tree
  name_of (Under s c) = λ G. meaning_of c (scope.Interval 0 ∷ G)
  name_of (Applied s c) = applied_to_name (meaning_of c)
  name_of _ = nothing universe

  pub variable_of : Shape → Means ℕ Tree
  variable_of (Under s c) = λ G. meaning_of c (scope.Variable 0 nat ∷ G)
  variable_of (Applied s c) = applied_to_variable (meaning_of c)
  variable_of _ = nothing universe

  pub components_of : Shapes.Shapes → List (Means ℕ Tree)
  components_of none = []
  components_of (more c rest) = meaning_of c ∷ components_of rest

  pub binders_of : Shapes.Shapes → List (BinderOf ℕ)
  binders_of (more (Binder n c) rest) = binder_of n (meaning_of c) ∷ binders_of rest
  binders_of _ = []

  pub elements_of : Shapes.Shapes → List (ElementOf ℕ)
  elements_of none = []
  elements_of (more (At s f) rest) = AtOf (formula_of f) ∷ elements_of rest
  elements_of (more c rest) = Argument (meaning_of c) ∷ elements_of rest

  pub term_sides_of : Shapes.Shapes → List (SideOf ℕ Tree)
  term_sides_of (more (On es (Side s c)) rest) = side_of es (meaning_of c) ∷ term_sides_of rest
  term_sides_of _ = []

  pub line_sides_of : Shapes.Shapes → List (SideOf ℕ Tree)
  line_sides_of (more (On es l) rest) = side_of es (name_of l) ∷ line_sides_of rest
  line_sides_of _ = []

  pub pair_sides_of : Shapes.Shapes → List (SideOf ℕ (Tree × Tree))
  pair_sides_of (more (On es (PairSide s T w)) rest) = side_of es (both (meaning_of T) (meaning_of w)) ∷ pair_sides_of rest
  pair_sides_of _ = []

  pub definition_of : Shape → Means ℕ (Scope ℕ)
  definition_of (Def x n bs t c) = define n (defined (binders_of bs) (meaning_of t) done (meaning_of c))
  definition_of _ = nothing []

  pub locals_of : Shapes.Shapes → Means ℕ (Scope ℕ)
  locals_of none = λ G. done G
  locals_of (more d rest) = and_then (definition_of d) (locals_of rest)

pub formula-same : (f : Formula) → formula f ≡ formula_of (formula_shape f)
formula-same (Zero' s) = refl
formula-same (One' s) = refl
formula-same (Bound' s k) = refl
formula-same (Negate' s p f) = ap (λ m G. one neg m G) (formula-same f)
formula-same (Meet' s p f q g) = ap₂ (λ m n G. two min m n G) (formula-same f) (formula-same g)
formula-same (Join' s p f q g) = ap₂ (λ m n G. two max m n G) (formula-same f) (formula-same g)

-- an element that is a code is an argument
pub argument_of : (c : Code) (rest : Shapes.Shapes) → elements_of (more (shape c) rest) ≡ Argument (meaning_of (shape c)) ∷ elements_of rest
argument_of (Bound' s k) rest = refl
argument_of (Defined' s n) rest = refl
argument_of (Let' s m ds p c) rest = refl
argument_of (Universe' s) rest = refl
argument_of (Nat' s) rest = refl
argument_of (Zero' s) rest = refl
argument_of (Suc' s p c) rest = refl
argument_of (NatRec' s p m q a r b t n) rest = refl
argument_of (Pi' s m bs p c) rest = refl
argument_of (Sigma' s m bs p c) rest = refl
argument_of (Lambda' s m bs p c) rest = refl
argument_of (PathLambda' s n p c) rest = refl
argument_of (Apply' s p c m es) rest = refl
argument_of (Project' s p c ps) rest = refl
argument_of (Tuple' s m cs) rest = refl
argument_of (PathP' s p l q a r b) rest = refl
argument_of (Comp' s p l q a m ss) rest = refl
argument_of (Fill' s p l q a m ss) rest = refl
argument_of (Transport' s p l q a) rest = refl
argument_of (GlueType' s p a m ss) rest = refl
argument_of (GlueTerm' s p a m ss) rest = refl
argument_of (Unglue' s p a m ss) rest = refl

mutual
  pub meaning-same : (c : Code) → meaning c ≡ meaning_of (shape c)
  meaning-same (Bound' s k) = refl
  meaning-same (Defined' s n) = refl
  meaning-same (Universe' s) = refl
  meaning-same (Nat' s) = refl
  meaning-same (Zero' s) = refl
  meaning-same (Let' s m ds p c) = ap₂ after (locals-same ds) (meaning-same c)
  meaning-same (Suc' s p c) = ap (one suc) (meaning-same c)
  meaning-same (NatRec' s p m q a r b t n) = ap₄ recursion (variable-same m) (meaning-same a) (meaning-same b) (meaning-same n)
  meaning-same (Pi' s m bs p c) = ap₂ (under pi) (binders-same bs) (meaning-same c)
  meaning-same (Sigma' s m bs p c) = ap₂ (under sig) (binders-same bs) (meaning-same c)
  meaning-same (Lambda' s m bs p c) = ap₂ (under lam) (binders-same bs) (meaning-same c)
  meaning-same (PathLambda' s n p c) = ap (under_names (replicate n 0)) (meaning-same c)
  meaning-same (Apply' s p c m es) = ap₂ application (meaning-same c) (elements-same es)
  meaning-same (Project' s p c ps) = ap (one (λ t. project t ps)) (meaning-same c)
  meaning-same (Tuple' s m cs) = ap tuple (components-same cs)
  meaning-same (PathP' s p l q a r b) = ap₃ path_type (name-same l) (meaning-same a) (meaning-same b)
  meaning-same (Comp' s p l q a m ss) = ap₃ composition (name-same l) (meaning-same a) (line_sides-same ss)
  meaning-same (Fill' s p l q a m ss) = ap₃ fill (name-same l) (meaning-same a) (line_sides-same ss)
  meaning-same (Transport' s p l q a) = ap₂ transport (name-same l) (meaning-same a)
  meaning-same (GlueType' s p a m ss) = ap₂ glue_of_types (meaning-same a) (pair_sides-same ss)
  meaning-same (GlueTerm' s p a m ss) = ap₂ glue_of_terms (meaning-same a) (term_sides-same ss)
  meaning-same (Unglue' s p a m ss) = ap₂ unglued (meaning-same a) (pair_sides-same ss)

  pub name-same : (l : Opened) → at_name l ≡ name_of (opened_shape l)
  name-same (Under' s c) = ap (λ m G. m (scope.Interval 0 ∷ G)) (meaning-same c)
  name-same (Applied' s c) = ap applied_to_name (meaning-same c)

  pub variable-same : (l : Opened) → at_variable l ≡ variable_of (opened_shape l)
  variable-same (Under' s c) = ap (λ m G. m (scope.Variable 0 nat ∷ G)) (meaning-same c)
  variable-same (Applied' s c) = ap applied_to_variable (meaning-same c)

  pub components-same : {m : _} (cs : Row_of-Code m) → components cs ≡ components_of (component_shapes cs)
  components-same end_of-Code = refl
  components-same (more_of-Code c rest) = ap₂ (λ x xs. x ∷ xs) (meaning-same c) (components-same rest)

  pub binders-same : {m : _} (bs : Row_of-Binder m) → binders bs ≡ binders_of (binder_shapes bs)
  binders-same end_of-Binder = refl
  binders-same (more_of-Binder n c rest) = ap₂ (λ x xs. binder_of n x ∷ xs) (meaning-same c) (binders-same rest)

  pub elements-same : {m : _} (es : Row_of-Element m) → elements es ≡ elements_of (element_shapes es)
  elements-same end_of-Element = refl
  elements-same (more_of-Element (Argument' c) rest) =
      ap₂ (λ x xs. Argument x ∷ xs) (meaning-same c) (elements-same rest) ∙ sym (argument_of c (element_shapes rest))
  elements-same (more_of-Element (At' s f) rest) = ap₂ (λ x xs. AtOf x ∷ xs) (formula-same f) (elements-same rest)

  pub term_sides-same : {m : _} (ss : Row_of-Side m) → term_sides ss ≡ term_sides_of (term_side_shapes ss)
  term_sides-same end_of-Side = refl
  term_sides-same (more_of-Side es s c rest) = ap₂ (λ x xs. side_of es.items x ∷ xs) (meaning-same c) (term_sides-same rest)

  pub line_sides-same : {m : _} (ss : Row_of-LineSide m) → line_sides ss ≡ line_sides_of (line_side_shapes ss)
  line_sides-same end_of-LineSide = refl
  line_sides-same (more_of-LineSide es l rest) = ap₂ (λ x xs. side_of es.items x ∷ xs) (name-same l) (line_sides-same rest)

  pub pair_sides-same : {m : _} (ss : Row_of-PairSide m) → pair_sides ss ≡ pair_sides_of (pair_side_shapes ss)
  pair_sides-same end_of-PairSide = refl
  pair_sides-same (more_of-PairSide es s T w rest) =
      ap₃ (λ x y xs. side_of es.items (both x y) ∷ xs) (meaning-same T) (meaning-same w) (pair_sides-same rest)

  pub definition-same : (d : CodeDef) → definition d ≡ definition_of (def_shape d)
  definition-same (CodeDef' x n m bs t c) =
      ap₃ (λ x y z. define n (defined x y done z)) (binders-same bs) (meaning-same t) (meaning-same c)

  pub locals-same : {m : _} (ds : Row_of-CodeDef m) → locals ds ≡ locals_of (local_shapes ds)
  locals-same end_of-CodeDef = refl
  locals-same (more_of-CodeDef d rest) = ap₂ and_then (definition-same d) (locals-same rest)
