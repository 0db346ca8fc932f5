-- Which code a text becomes among the names in scope, form by form, each with the piece of the text
-- that it spells. But for the numbers of its own definitions, text and names leave one code.
use Rattle.std.specs.Prelude.{◌≡◌, ◌==◌, ◌&&◌, ℕ, zero, suc, Bool, true, false, List, [], ◌∷◌, map}
use Rattle.std.specs.Prelude.{length, codes, if◌then◌else◌, Option, Some, None}
use Rattle.layout_lexer.specs.declared.token.Span.{Span}
use Rattle.syntax.specs.declared.exp.Exp.{Exp}
use Rattle.syntax.specs.declared.exp.Element.{Element}
use Rattle.syntax.specs.declared.exp.Tele.{Tele}
use Rattle.syntax.specs.declared.exp.Side.{Side as SideOf}
use Rattle.syntax.specs.declared.exp.Def.{Def}
use Rattle.syntax.specs.Tree as text
use Rattle.syntax.specs.View.{tree_of, element_of, tele_of, side_of, def_of, tree_list}
use Rattle.translation.specs.declared.built_in.BuiltIn.TheVariants as built_in
use Rattle.translation.specs.Names.{Word}
use Rattle.translation.specs.Texts.{span_of, word}
use Rattle.codes.specs.declared.code.Code.{Code}
use Rattle.codes.specs.declared.code.CodeDef.{CodeDef}
use Rattle.codes.specs.declared.code.Opened.{Opened as OpenedOf}
use Rattle.codes.specs.declared.code.Binder.{Binder}
use Rattle.codes.specs.declared.code.Element.{Element as CodeElement}
use Rattle.codes.specs.declared.code.Side.{Side as CodeSide}
use Rattle.codes.specs.declared.code.LineSide.{LineSide}
use Rattle.codes.specs.declared.code.PairSide.{PairSide}
use Rattle.codes.specs.Shapes as code
use Rattle.codes.specs.Shapes.{Shape, Shapes, shape, opened_shape, element_shape, def_shape, listed}
use Rattle.codes.specs.Shapes.{of_binder, of_side, of_line_side, of_pair_side}
use Rattle.scopes.specs.declared.names.Binding.{Binding}
use Rattle.scopes.specs.declared.names.Binding.TheVariants as binding
use Rattle.scopes.specs.declared.names.Found.{Found}
use Rattle.scopes.specs.declared.names.Found.TheVariants as found
use Rattle.scopes.specs.Finding.{Named}
use Rattle.name_resolution.specs.Named.{as_term, found_at, formula_in, equations_in}

-- Where a text stands. But for a term it is known by the piece that it spells, with its brackets.
pub data Stand : Type 0 where
  Term : Stand
  Line : Span → Stand
  Motive : Span → Stand
  -- on a side of `glue`, and on one of `Glue` or `unglue`
  Side : Span → Stand
  Pair : Span → Stand

-- which codes a text may become, among these names, where it stands
abbrev pub Becoming : Type 1
Becoming = List Named → Stand → Shape → Type 0

-- A form that is no written line, motive or pair: a line or motive is applied, and a pair refused.
abbrev pub plain : (List Named → Shape → Type 0) → Becoming
plain Is names Term c = Is names c
plain Is names (Line s) c = (b : Shape) × (c ≡ code.Applied s b) × Is names b
plain Is names (Motive s) c = (b : Shape) × (c ≡ code.Applied s b) × Is names b
plain Is names (Side s) c = (b : Shape) × (c ≡ code.Side s b) × Is names b
plain Is names (Pair s) c = (b : Shape) × (c ≡ code.PairSide s b (code.Universe s)) × Is names b

-- As a line, a motive or a pair, some forms are another code.

abbrev pub as_line : (List Named → Span → Shape → Type 0) → Becoming → Becoming
as_line Is otherwise names (Line s) c = Is names s c
as_line Is otherwise names at c = otherwise names at c

abbrev pub as_motive : (List Named → Span → Shape → Type 0) → Becoming → Becoming
as_motive Is otherwise names (Motive s) c = Is names s c
as_motive Is otherwise names at c = otherwise names at c

abbrev pub as_pair : (List Named → Span → Shape → Type 0) → Becoming → Becoming
as_pair Is otherwise names (Pair s) c = Is names s c
as_pair Is otherwise names at c = otherwise names at c

abbrev pub where_found : {A : Type 0} → Option A → (A → Type 0) → Type 0 → Type 0
where_found (Some a) Is otherwise = Is a
where_found None Is otherwise = otherwise

abbrev pub where_true : Bool → Type 0 → Type 0 → Type 0
where_true true Is otherwise = Is
where_true false Is otherwise = otherwise

-- so many variables over `nat`, which stands at that piece
abbrev pub numbers : ℕ → Span → Shapes
numbers n s = if n == 0 then code.none else code.more (code.Binder n (code.Nat s)) code.none

-- the body of a definition, after its `where` block if it has one
abbrev pub after : Span → Shapes → Shape → Shape
after s code.none b = b
after s (code.more d ds) b = code.Let s (code.more d ds) b

-- one component is itself
abbrev pub tuple : Span → Shapes → Shape
tuple s (code.more c code.none) = c
tuple s cs = code.Tuple s cs

-- is it an argument, and no `@ formula`?
abbrev pub is_argument : text.Tree → Bool
is_argument (text.At s f) = false
is_argument _ = true

-- are the first so many arguments?
abbrev pub are_arguments : ℕ → text.Trees → Bool
are_arguments zero es = true
are_arguments (suc n) text.none = false
are_arguments (suc n) (text.more e es) = is_argument e && are_arguments n es

abbrev pub is_nat : Found → Bool
is_nat (found.BuiltIn built_in.Nat) = true
is_nat _ = false

-- A name that is applied, by what it stands for: where as many are written, `suc` takes one
-- argument of its own, and `natrec` four.
abbrev pub Applied : Found → text.Trees → Type 0 → Type 0 → Type 0 → Type 0
Applied (found.BuiltIn built_in.Suc) es TakesOne TakesFour TakesNone =
    where_true (are_arguments 1 es) TakesOne TakesNone
Applied (found.BuiltIn built_in.NatRec) es TakesOne TakesFour TakesNone =
    where_true (are_arguments 4 es) TakesFour TakesNone
Applied _ es TakesOne TakesFour TakesNone = TakesNone

-- with names bound, the last first
abbrev pub bound_in : List Word → Binding → List Named → List Named
bound_in [] b names = names
bound_in (x ∷ xs) b names = bound_in xs b (record { word = x; binding = b } ∷ names)

-- Which names are in scope after a part of a text that became a code.
abbrev pub Scoping : Type 0
Scoping = text.Tree → Shape → List Named → List Named

-- after these, in order
abbrev pub after_all : Scoping → text.Trees → Shapes → List Named → List Named
after_all step text.none cs names = names
after_all step (text.more e es) code.none names = names
after_all step (text.more e es) (code.more c cs) names = after_all step es cs (step e c names)

-- parts that bind nothing
abbrev pub binding_nothing : Scoping
binding_nothing e c names = names

module _ (bytes : List ℕ) where
  abbrev pub words : List Span → List Word
  words = map (word bytes)

  -- a tele binds variables
  abbrev pub under_tele : Scoping
  under_tele (text.Tele xs t) c names = bound_in (words xs) binding.Variable names
  under_tele _ c names = names

  -- a definition is bound to its number
  abbrev pub after_definition : Scoping
  after_definition e (code.Def x n bs A b) names =
      record { word = word bytes x; binding = binding.Definition n } ∷ names
  after_definition e _ names = names

  -- a lambda that is not opened, where its teles become `Binders` and its body becomes `Body`
  abbrev pub in_lambda : Span → text.Trees → (List Named → Shapes → Type 0) → Becoming → Becoming
  in_lambda s xs Binders Body = plain λ names c. (bs : Shapes) × (b : Shape)
      × (c ≡ code.lambda s bs b) × Binders names bs × Body (after_all under_tele xs bs names) Term b

  -- where the text is the built-in `nat`, in any brackets: its name
  abbrev mutual
    pub nat_in : List Named → text.Tree → Option Span
    nat_in names (text.Name s) = if is_nat (found_at bytes names s) then Some s else None
    nat_in names (text.Brackets s es) = nat_alone names es
    nat_in names (text.PathLambda s [] e) = nat_in names e
    nat_in names _ = None

    pub nat_alone : List Named → text.Trees → Option Span
    nat_alone names (text.more e text.none) = nat_in names e
    nat_alone names _ = None

  abbrev mutual
    pub Becomes : text.Tree → Becoming
    Becomes (text.Let s ds e) = plain λ names c. (xs : Shapes) × (b : Shape)
        × (c ≡ code.Let s xs b) × Become after_definition ds names xs
        × Becomes e (after_all after_definition ds xs names) Term b
    Becomes (text.Lambda s xs e) =
        as_motive (OpenedOver xs (Becomes e) (in_lambda s xs (Become under_tele xs) (Becomes e)))
        (in_lambda s xs (Become under_tele xs) (Becomes e))
    Becomes (text.PathLambda s [] e) = Becomes e
    Becomes (text.PathLambda s (i ∷ is) e) =
        as_line (λ names p c. (b : Shape) × (c ≡ code.Under p (code.path_lambda p (length is) b))
        × Becomes e (bound_in (words (i ∷ is)) binding.Interval names) Term b)
        (plain λ names c. (b : Shape) × (c ≡ code.path_lambda s (length (i ∷ is)) b)
        × Becomes e (bound_in (words (i ∷ is)) binding.Interval names) Term b)
    Becomes (text.Pi s xs e) = plain λ names c. (bs : Shapes) × (b : Shape)
        × (c ≡ code.Pi s bs b) × Become under_tele xs names bs
        × Becomes e (after_all under_tele xs bs names) Term b
    Becomes (text.Sigma s xs e) = plain λ names c. (bs : Shapes) × (b : Shape)
        × (c ≡ code.Sigma s bs b) × Become under_tele xs names bs
        × Becomes e (after_all under_tele xs bs names) Term b
    Becomes (text.Arrow s a e) = plain λ names c. (A : Shape) × (b : Shape)
        × (c ≡ code.Pi s (code.more (code.Binder 1 A) code.none) b) × Becomes a names Term A
        × Becomes e (bound_in (codes "_" ∷ []) binding.Variable names) Term b
    Becomes (text.Apply s (text.Name n) es) = plain λ names c. (h : Shape) × (cs : Shapes)
        × (c ≡ code.apply s h cs) × Applied (found_at bytes names n) es (TakesOne n es names h cs)
        (TakesFour n es names h cs)
        ((h ≡ as_term n (found_at bytes names n)) × Become binding_nothing es names cs)
    Becomes (text.Apply s f es) = plain λ names c. (h : Shape) × (cs : Shapes)
        × (c ≡ code.apply s h cs) × Becomes f names Term h × Become binding_nothing es names cs
    Becomes (text.PathP s l a b) = plain λ names c. (L : Shape) × (A : Shape) × (B : Shape)
        × (c ≡ code.PathP s L A B) × Becomes l names (Line (span_of l)) L
        × Becomes a names Term A × Becomes b names Term B
    Becomes (text.Comp s l a ss) = plain λ names c. (L : Shape) × (A : Shape) × (cs : Shapes)
        × (c ≡ code.Comp s L A cs) × Becomes l names (Line (span_of l)) L
        × Becomes a names Term A × BecomeSides Line ss names cs
    Becomes (text.Fill s l a ss) = plain λ names c. (L : Shape) × (A : Shape) × (cs : Shapes)
        × (c ≡ code.Fill s L A cs) × Becomes l names (Line (span_of l)) L
        × Becomes a names Term A × BecomeSides Line ss names cs
    Becomes (text.Transport s l a) = plain λ names c. (L : Shape) × (A : Shape)
        × (c ≡ code.Transport s L A) × Becomes l names (Line (span_of l)) L
        × Becomes a names Term A
    Becomes (text.GlueType s a ss) = plain λ names c. (A : Shape) × (cs : Shapes)
        × (c ≡ code.GlueType s A cs) × Becomes a names Term A × BecomeSides Pair ss names cs
    Becomes (text.GlueTerm s a ss) = plain λ names c. (A : Shape) × (cs : Shapes)
        × (c ≡ code.GlueTerm s A cs) × Becomes a names Term A × BecomeSides Side ss names cs
    Becomes (text.Unglue s a ss) = plain λ names c. (A : Shape) × (cs : Shapes)
        × (c ≡ code.Unglue s A cs) × Becomes a names Term A × BecomeSides Pair ss names cs
    Becomes (text.Project s e ps) = plain λ names c.
        (b : Shape) × (c ≡ code.Project s b ps) × Becomes e names Term b
    Becomes (text.Universe s) = plain λ names c. c ≡ code.Universe s
    Becomes (text.Name s) = plain λ names c. c ≡ as_term s (found_at bytes names s)
    Becomes (text.Brackets s es) = InBrackets s es
    Becomes (text.At s f) = plain λ names c. c ≡ code.At s (formula_in bytes names f)
    Becomes (text.Tele xs t) = plain λ names c.
        (A : Shape) × (c ≡ code.Binder (length xs) A) × Becomes t names Term A
    Becomes (text.Def x xs t e ds) = plain λ names c.
        (n : ℕ) × (bs : Shapes) × (A : Shape) × (ls : Shapes) × (b : Shape)
        × (c ≡ code.Def x n bs A (after (span_of e) ls b)) × Become under_tele xs names bs
        × Becomes t (after_all under_tele xs bs names) Term A
        × Become after_definition ds (after_all under_tele xs bs names) ls
        × Becomes e (after_all after_definition ds ls (after_all under_tele xs bs names)) Term b
    Becomes _ = plain λ names c. ⊥

    -- in order, each among the names after those before it
    pub Become : Scoping → text.Trees → List Named → Shapes → Type 0
    Become step text.none names code.none = Unit {0}
    Become step (text.more e es) names (code.more c cs) =
        Becomes e names Term c × Become step es (step e c names) cs
    Become step _ names _ = ⊥

    -- As a motive a lambda over `nat` is opened: its first variable is that of the motive. Over
    -- nothing it is its body.
    pub OpenedOver : text.Trees → Becoming → Becoming → List Named → Span → Shape → Type 0
    OpenedOver text.none Body otherwise names p c = Body names (Motive p) c
    OpenedOver (text.more (text.Tele (x ∷ others) t) xs) Body otherwise names p c =
        where_found (nat_in names t) (λ n. (bs : Shapes) × (b : Shape)
        × (c ≡ code.Under p (code.lambda p (numbers (length others) n) (code.lambda p bs b)))
        × Become under_tele xs (bound_in (words (x ∷ others)) binding.Variable names) bs
        × Body (after_all under_tele xs bs (bound_in (words (x ∷ others)) binding.Variable names))
        Term b) (otherwise names (Motive p) c)
    OpenedOver _ Body otherwise names p c = otherwise names (Motive p) c

    -- `( texts )`: one is seen through, several are a tuple
    pub InBrackets : Span → text.Trees → Becoming
    InBrackets s text.none = plain λ names c. c ≡ code.Tuple s code.none
    InBrackets s (text.more e text.none) = Becomes e
    InBrackets s (text.more a (text.more b rest)) =
        as_pair (λ names p c. (T : Shape) × (ws : Shapes) × (c ≡ code.PairSide p T (tuple s ws))
        × Becomes a names Term T × Become binding_nothing (text.more b rest) names ws)
        (plain λ names c. (A : Shape) × (bs : Shapes) × (c ≡ code.Tuple s (code.more A bs))
        × Becomes a names Term A × Become binding_nothing (text.more b rest) names bs)

    -- what takes one argument of its own, and what takes four

    pub TakesOne : Span → text.Trees → List Named → Shape → Shapes → Type 0
    TakesOne n (text.more a es) names h cs =
        (b : Shape) × (h ≡ code.Suc n b) × Becomes a names Term b
        × Become binding_nothing es names cs
    TakesOne n text.none names h cs = ⊥

    pub TakesFour : Span → text.Trees → List Named → Shape → Shapes → Type 0
    TakesFour n (text.more P (text.more a (text.more b (text.more k es)))) names h cs =
        (M : Shape) × (x : Shape) × (y : Shape) × (z : Shape) × (h ≡ code.NatRec n M x y z)
        × Becomes P names (Motive (span_of P)) M × Becomes a names Term x
        × Becomes b names Term y × Becomes k names Term z × Become binding_nothing es names cs
    TakesFour n es names h cs = ⊥

    pub BecomeSides : (Span → Stand) → text.Trees → List Named → Shapes → Type 0
    BecomeSides at text.none names code.none = Unit {0}
    BecomeSides at (text.more (text.Side qs e) es) names (code.more c cs) =
        ((b : Shape) × (c ≡ code.On (equations_in bytes names qs) b)
        × Becomes e names (at (span_of e)) b) × BecomeSides at es names cs
    BecomeSides at _ names _ = ⊥

  -- a name that takes no arguments of its own
  abbrev pub TakesNone : Span → Found → text.Trees → List Named → Shape → Shapes → Type 0
  TakesNone n f es names h cs = (h ≡ as_term n f) × Become binding_nothing es names cs

-- The same of values of the program, among these names.

pub record IsTerm (bytes : List ℕ) (names : List Named) (e : Exp) (c : Code) : Type 0 where
  pub becomes : Becomes bytes (tree_of e) names Term (shape c)

pub record AreTerms (bytes : List ℕ) (names : List Named) (es : List Exp) (cs : List Code) :
    Type 0 where
  pub become : Become bytes binding_nothing (tree_list tree_of es) names (listed shape cs)

-- in brackets at that piece
pub record IsTuple (bytes : List ℕ) (names : List Named) (s : Span) (es : List Exp) (c : Code) :
    Type 0 where
  pub becomes : Becomes bytes (text.Brackets s (tree_list tree_of es)) names Term (shape c)

-- the name there, applied
pub record IsApplied (bytes : List ℕ) (names : List Named) (s n : Span) (es : List Element)
    (c : Code) : Type 0 where
  pub becomes : let es' = tree_list element_of es in
      Becomes bytes (text.Apply s (text.Name n) es') names Term (shape c)

-- the same, where the name takes no arguments of its own
pub record IsPlain (bytes : List ℕ) (names : List Named) (s n : Span) (es : List Element)
    (c : Code) : Type 0 where
  pub head : Shape
  pub elements : Shapes
  pub is : shape c ≡ code.apply s head elements
  pub takes : let found = found_at bytes names n in
      TakesNone bytes n found (tree_list element_of es) names head elements

pub record IsLine (bytes : List ℕ) (names : List Named) (s : Span) (e : Exp) (l : OpenedOf) :
    Type 0 where
  pub becomes : Becomes bytes (tree_of e) names (Line s) (opened_shape l)

pub record IsMotive (bytes : List ℕ) (names : List Named) (s : Span) (e : Exp) (m : OpenedOf) :
    Type 0 where
  pub becomes : Becomes bytes (tree_of e) names (Motive s) (opened_shape m)

pub record IsPair (bytes : List ℕ) (names : List Named) (s : Span) (e : Exp) (T w : Code) :
    Type 0 where
  pub becomes : Becomes bytes (tree_of e) names (Pair s) (code.PairSide s (shape T) (shape w))

pub record IsElement (bytes : List ℕ) (names : List Named) (e : Element) (c : CodeElement) :
    Type 0 where
  pub becomes : Becomes bytes (element_of e) names Term (element_shape c)

pub record AreElements (bytes : List ℕ) (names : List Named) (es : List Element)
    (cs : List CodeElement) : Type 0 where
  pub become : let es' = tree_list element_of es in
      Become bytes binding_nothing es' names (listed element_shape cs)

pub record AreSides (bytes : List ℕ) (names : List Named) (ss : List SideOf)
    (cs : List CodeSide) : Type 0 where
  pub become : BecomeSides bytes Side (tree_list side_of ss) names (listed of_side cs)

pub record AreLineSides (bytes : List ℕ) (names : List Named) (ss : List SideOf)
    (cs : List LineSide) : Type 0 where
  pub become : BecomeSides bytes Line (tree_list side_of ss) names (listed of_line_side cs)

pub record ArePairSides (bytes : List ℕ) (names : List Named) (ss : List SideOf)
    (cs : List PairSide) : Type 0 where
  pub become : BecomeSides bytes Pair (tree_list side_of ss) names (listed of_pair_side cs)

-- These become the code one after another, and leave the names `after` in scope.

pub record AreBinders (bytes : List ℕ) (names after : List Named) (xs : List Tele)
    (bs : List Binder) : Type 0 where
  pub become : Become bytes (under_tele bytes) (tree_list tele_of xs) names (listed of_binder bs)
  pub leaves : let xs' = tree_list tele_of xs in
      after ≡ after_all (under_tele bytes) xs' (listed of_binder bs) names

pub record IsDef (bytes : List ℕ) (names : List Named) (d : Def) (c : CodeDef) : Type 0 where
  pub becomes : Becomes bytes (def_of d) names Term (def_shape c)

pub record AreDefs (bytes : List ℕ) (names after : List Named) (ds : List Def)
    (cs : List CodeDef) : Type 0 where
  pub become : let ds' = tree_list def_of ds in
      Become bytes (after_definition bytes) ds' names (listed def_shape cs)
  pub leaves : let ds' = tree_list def_of ds in
      after ≡ after_all (after_definition bytes) ds' (listed def_shape cs) names
