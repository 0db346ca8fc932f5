-- What is tried of filling, contraction, preservation and extension: what is given of each, with
-- nothing wanted.
use Rattle.std.specs.Prelude.{List, [], ◌∷◌, ◌++◌, ◌-◌, length, take, Option}
use Rattle.trees.specs.declared.op.Op.TheVariants as op
use Rattle.trees.specs.declared.kind.PartKind.{PartKind}
use Rattle.trees.specs.Judgements.{Judgement, trees}
use Rattle.trees.specs.Things.{Thing, AContext, ATree, meanings}
use Rattle.trees.specs.Language.{Language, JudgementOf, Tm, TmEq}
use Rattle.patterns.specs.Patterns.{patterns}
use Rattle.rules.specs.Table.{weakened, i0, i1, neg, min, f0, eq0, eq1, join, all, universe}
use Rattle.rules.specs.Table.{pi, lam, pathp, plam, nat, zero, is_contr, fill}
use Rattle.rules.specs.Table.{equiv, fiber, pair, fst, snd, papp}
use Rattle.book.specs.Contents.{Contents}
use Rattle.book.specs.Shown.{book_concludes}
use Rattle.kan_calls.specs.declared.calls.Derived.{Derived}
use Rattle.kan_fill.specs.Statements.{filling, contraction, preservation, extension}
use Rattle.kan_fill.specs.Statements.{fill_statement, contr_statement, pres_statement}
use Rattle.kan_fill.specs.Statements.{ext_statement}
use Rattle.recipes.specs.declared.row.Row.{Row}
use Rattle.recipes.specs.Statements.{Claimed, Statement, stated}

module _ (L : Language) where
  abbrev f1 : L.tree
  f1 = L.make op.F1 []

  abbrev meet : L.tree → L.tree → L.tree
  meet p q = L.make op.Meet (p ∷ q ∷ [])

  abbrev max : L.tree → L.tree → L.tree
  max r s = L.make op.Max (r ∷ s ∷ [])

  -- the type of a filling of a by itself, and what it is where p is; A and a are weakened for a
  -- line
  abbrev filled : L.context → L.tree → L.tree → L.tree → L.tree → List (JudgementOf L)
  filled G A p a r =
      let whole = fill L (weakened L A) p (weakened L a) a r in
      Tm G whole A ∷ TmEq (L.with_face G p) whole a A ∷ []

  -- two names, j the last
  abbrev names : L.context
  names = L.with_name (L.with_name L.nil)

  abbrev k : L.tree
  k = L.var 1

  abbrev j : L.tree
  j = L.var 0

  abbrev numbers : L.tree → L.tree → List (JudgementOf L)
  numbers p r = filled names (nat L) p (zero L) r

  -- of numbers, on many faces
  abbrev faces : Claimed L
  faces = record {
    wants = [];
    sides = [];
    gives =
        numbers (f0 L) (i0 L)
        ++ (numbers f1 (i1 L)
        ++ (numbers (eq0 L j) j
        ++ (numbers (join L (eq0 L j) (eq1 L k)) (min L j (neg L k))
        ++ (numbers (meet (eq0 L j) (eq1 L k)) (max j k)
        ++ numbers (all L (join L (eq0 L (L.var 0)) (eq1 L (L.var 1)))) (neg L j)))));
  }

  -- a name, a type and an element of it
  abbrev element : L.context
  element = L.with_var (L.with_var (L.with_name L.nil) (universe L)) (L.var 0)

  abbrev connection : L.tree
  connection = min L (L.var 2) (neg L (L.var 2))

  abbrev on_end : L.tree → L.tree → List (JudgementOf L)
  on_end A a = filled element A (eq0 L (L.var 2)) a connection

  -- over a variable, functions and paths
  abbrev lines : Claimed L
  lines = record {
    wants = [];
    sides = [];
    gives =
        on_end (L.var 1) (L.var 0)
        ++ (on_end (pi L (nat L) (nat L)) (lam L (nat L) (L.var 0))
        ++ on_end (pathp L (nat L) (zero L) (zero L)) (plam L (zero L)));
  }

  -- one name
  abbrev pub name : L.context
  name = L.with_name L.nil

  -- the premises of a filling of zero by itself, from the end 0 of a name
  abbrev premises : Claimed L
  premises =
      let end = eq0 L (L.var 0) in
      record {
        wants = [];
        sides = [];
        gives = (filling L name (nat L) end (zero L) (zero L) (L.var 0)).wants;
      }

  -- the premises of a preservation of zero by the identity of numbers, from the end 0 of a name
  abbrev moved : Claimed L
  moved =
      let same = lam L (nat L) (L.var 0) in
      let end = eq0 L (L.var 0) in
      record {
        wants = [];
        sides = [];
        gives = (preservation L name (nat L) (nat L) same end (zero L) (zero L)).wants;
      }

  -- The element of a type X that is a variable: of a context with X, that X is contractible, and an
  -- element of X.

  abbrev pub contractible : L.context
  contractible =
      let type_of = L.with_var (L.with_name L.nil) (universe L) in
      L.with_var (L.with_var type_of (is_contr L (L.var 0))) (L.var 1)

  abbrev extended : Claimed L
  extended = record {
    wants = [];
    sides = [];
    gives =
        (contraction L contractible (L.var 2) (L.var 1) (eq0 L (L.var 3)) (L.var 0)).gives;
  }

  -- the premises of that
  abbrev contracted : Claimed L
  contracted =
      let end = eq0 L (L.var 3) in
      record {
        wants = [];
        sides = [];
        gives = (contraction L contractible (L.var 2) (L.var 1) end (L.var 0)).wants;
      }

  -- numbers, carried along the identity
  abbrev carried : Claimed L
  carried =
      let same = lam L (nat L) (L.var 0) in
      let end = eq0 L (L.var 0) in
      record {
        wants = [];
        sides = [];
        gives =
            (preservation L name (nat L) (nat L) same end (zero L) (zero L)).gives;
      }

  -- An equivalence of numbers that is a variable: of a context with it and an element of its fiber
  -- at zero.

  abbrev pub of_fiber : L.context
  of_fiber =
      let equivalence = L.with_var name (equiv L (nat L) (nat L)) in
      L.with_var equivalence (fiber L (nat L) (nat L) (fst L (L.var 0)) (zero L))

  abbrev lifted : Claimed L
  lifted =
      let end = eq0 L (L.var 2) in
      record {
        wants = [];
        sides = [];
        gives =
            (extension L of_fiber (nat L) (nat L) (L.var 1) end (L.var 0) (zero L)).gives;
      }

  -- the premises of that
  abbrev raised : Claimed L
  raised =
      let end = eq0 L (L.var 2) in
      record {
        wants = [];
        sides = [];
        gives =
            (extension L of_fiber (nat L) (nat L) (L.var 1) end (L.var 0) (zero L)).wants;
      }

  -- The identity of numbers as an equivalence: each fiber contracts to a number and its constant
  -- path, along the path of the fiber's element.

  abbrev same : L.tree
  same = lam L (nat L) (L.var 0)

  abbrev identity : L.tree
  identity =
      let centre = pair L (L.var 0) (plam L (L.var 1)) in
      let below = papp L (snd L (L.var 2)) (min L (L.var 1) (L.var 0)) in
      let between = pair L (papp L (snd L (L.var 1)) (L.var 0)) (plam L below) in
      let fibers = fiber L (nat L) (nat L) same (L.var 0) in
      pair L same (lam L (nat L) (pair L centre (lam L fibers (plam L between))))

  abbrev of_identity : L.context
  of_identity = L.with_var name (fiber L (nat L) (nat L) (fst L identity) (zero L))

  abbrev along_identity : Claimed L
  along_identity =
      let end = eq0 L (L.var 1) in
      record {
        wants = [];
        sides = [];
        gives =
            Tm name identity (equiv L (nat L) (nat L))
            ∷ (extension L of_identity (nat L) (nat L) identity end (L.var 0) (zero L)).gives;
      }

abbrev none : List PartKind
none = []

abbrev pub faces_statement : Statement
faces_statement = stated none (faces patterns)

abbrev pub lines_statement : Statement
lines_statement = stated none (lines patterns)

abbrev pub extended_statement : Statement
extended_statement = stated none (extended patterns)

abbrev pub carried_statement : Statement
carried_statement = stated none (carried patterns)

abbrev pub lifted_statement : Statement
lifted_statement = stated none (lifted patterns)

abbrev pub identity_statement : Statement
identity_statement = stated none (along_identity patterns)

-- the earlier recipes that these name
abbrev pub earlier : List Statement
earlier = fill_statement ∷ contr_statement ∷ pres_statement ∷ ext_statement ∷ []

abbrev pub premises_statement : Statement
premises_statement = stated none (premises patterns)

-- the parts of that filling
abbrev pub filling_parts : List Thing
filling_parts =
    AContext (name trees)
    ∷ ATree (nat trees)
    ∷ ATree (eq0 trees (trees.var 0))
    ∷ ATree (zero trees)
    ∷ ATree (zero trees)
    ∷ ATree (trees.var 0)
    ∷ []

abbrev pub moved_statement : Statement
moved_statement = stated none (moved patterns)

-- the parts of that preservation
abbrev pub preservation_parts : List Thing
preservation_parts =
    AContext (name trees)
    ∷ ATree (nat trees)
    ∷ ATree (nat trees)
    ∷ ATree (lam trees (nat trees) (trees.var 0))
    ∷ ATree (eq0 trees (trees.var 0))
    ∷ ATree (zero trees)
    ∷ ATree (zero trees)
    ∷ []

abbrev pub contracted_statement : Statement
contracted_statement = stated none (contracted patterns)

-- the parts of that contraction
abbrev pub contraction_parts : List Thing
contraction_parts =
    AContext (contractible trees)
    ∷ ATree (trees.var 2)
    ∷ ATree (trees.var 1)
    ∷ ATree (eq0 trees (trees.var 3))
    ∷ ATree (trees.var 0)
    ∷ []

abbrev pub raised_statement : Statement
raised_statement = stated none (raised patterns)

-- the parts of that extension
abbrev pub extension_parts : List Thing
extension_parts =
    AContext (of_fiber trees)
    ∷ ATree (nat trees)
    ∷ ATree (nat trees)
    ∷ ATree (trees.var 1)
    ∷ ATree (eq0 trees (trees.var 2))
    ∷ ATree (trees.var 0)
    ∷ ATree (zero trees)
    ∷ []

-- the rows of a table before its last
abbrev pub before_last : List Row → List Row
before_last rows = take (length rows - 1) rows

-- what the nodes conclude that a call gave, where all are there
abbrev pub given_by : Contents → Derived → Option (List Judgement)
given_by b d = meanings (book_concludes b) (d.typing.0 ∷ d.equations)
