-- From texts to trees.
use Rattle.std.specs.Prelude.{◌&&◌, ℕ, Bool, false, not, List, [], ◌∷◌, map, slice_range, codes}
use Rattle.std.specs.Prelude.{bytes_eq, if◌then◌else◌}
use Rattle.std.specs.List.{list_any}
use Rattle.layout_lexer.specs.declared.token.Span.{Span}
use Rattle.syntax.specs.declared.formula.Equation.{Equation}
use Rattle.syntax.specs.Tree as text
use Rattle.trees.specs.Trees.{Tree, Var}
use Rattle.translation.specs.declared.fault.Cause.TheVariants.{Twice, GlueSide}
use Rattle.translation.specs.declared.built_in.BuiltIn.TheVariants as built_in
use Rattle.translation.specs.Terms.{i0, i1, neg, min, max, universe, nat, pi, lam, sig, suc, natrec}
use Rattle.translation.specs.Terms.{pair as pair_tree}
use Rattle.translation.specs.Scopes.{Variable, Interval, Scope}
use Rattle.translation.specs.Translated.{Translated, done, refused, ◌>>=◌, ◌>>◌, with}
use Rattle.translation.specs.Names.{Word, Meaning, BuiltInName, meaning, is_nameless}
use Rattle.translation.specs.Names.{as_term, as_name, is_built_in_nat}
use Rattle.translation.specs.Forms.{Means, Binder, Element, Argument as argument, At as at, Side}
use Rattle.translation.specs.Forms.{one, two, under, over, under_names, project, tuple, path_type}
use Rattle.translation.specs.Forms.{applied_to_name, applied_to_variable, apply_all, application}
use Rattle.translation.specs.Forms.{equation, composition, transport, fill, unglued}
use Rattle.translation.specs.Forms.{glue_of_types, glue_of_terms, after, defined, define}

-- What an expression means at each kind of place where it may stand.
pub record Reading : Type 0 where
  -- where a term is wanted
  pub term : Means Word Tree
  -- where a line is: a tree over a name
  pub line : Means Word Tree
  -- where the motive of `natrec` is: a tree over a variable
  pub motive : Means Word Tree
  -- as a side of `Glue` or `unglue`, at the place: a type, and an equivalence
  pub pair : ℕ → Means Word (Tree × Tree)
  -- is it the built-in `nat`?
  pub is_nat : Scope Word → Bool

-- `(names : type)`
pub record Tele : Type 0 where
  pub names : List Word
  pub type : Reading

-- an argument, or `@` with its formula
pub data Given : Type 0 where
  Argument : Reading → Given
  At : Means Word Tree → Given

-- `equations -> body`, with the place of the body
pub record SideOf : Type 0 where
  pub equations : List (Means Word Tree)
  pub at : ℕ
  pub body : Reading

-- `name teles : type = body where block`
pub record Written : Type 0 where
  pub name : Span
  pub means : Means Word (Tree × Tree)

-- a form that is no written line, motive or pair
abbrev pub plain : Means Word Tree → Reading
plain means = record {
  term = means;
  line = applied_to_name means;
  motive = applied_to_variable means;
  pair = λ at G. do
    t ← means G
    refused at GlueSide (t, universe);
  is_nat = λ G. false;
}

-- the piece of the text that an expression spells, with its brackets
abbrev pub span_of : text.Tree → Span
span_of (text.Let s ds e) = s
span_of (text.Lambda s xs e) = s
span_of (text.PathLambda s is e) = s
span_of (text.Pi s xs e) = s
span_of (text.Sigma s xs e) = s
span_of (text.Arrow s a b) = s
span_of (text.Apply s f es) = s
span_of (text.PathP s l a b) = s
span_of (text.Comp s l a ss) = s
span_of (text.Fill s l a ss) = s
span_of (text.Transport s l a) = s
span_of (text.GlueType s a ss) = s
span_of (text.GlueTerm s a ss) = s
span_of (text.Unglue s a ss) = s
span_of (text.Project s e ps) = s
span_of (text.Universe s) = s
span_of (text.Name s) = s
span_of (text.Brackets s es) = s
span_of (text.At s f) = s
span_of _ = record { start = 0; end = 0 }

-- `( components )`: one is seen through, several are nested pairs
abbrev pub brackets : List Reading → Reading
brackets [] = plain (tuple [])
brackets (e ∷ []) = e
brackets (a ∷ b ∷ rest) =
    let after_first : Means Word Tree = tuple (map (λ e. e.term) (b ∷ rest)) in
    record (plain (two pair_tree a.term after_first)) {
      pair = λ at G. do
        T ← a.term G
        w ← after_first G
        done (T, w);
    }

-- `< names > body`: as a line, over the first name
abbrev pub path_lambda : List Word → Reading → Reading
path_lambda [] body = body
path_lambda (i ∷ is) body =
    record (plain (under_names (i ∷ is) body.term)) {
      line = λ G. under_names is body.term (Interval i ∷ G);
    }

-- the variable of an arrow, which has no name
abbrev pub nameless : Reading → Tele
nameless e = record { names = codes "_" ∷ []; type = e }

abbrev pub binders : List Tele → List (Binder Word)
binders = map (λ x. record { names = x.names; type = x.type.term })

-- As a motive, a lambda over the built-in `nat` is opened at its first variable.
abbrev pub opened : List Word → Means Word Tree → Means Word Tree → Means Word Tree
opened [] inner whole = whole
opened (x ∷ xs) inner whole = λ G. over lam xs nat inner (Variable x nat ∷ G)

abbrev pub motive_of : List Tele → Reading → Means Word Tree
motive_of [] body = body.motive
motive_of (x ∷ xs) body = λ G.
    let whole = applied_to_variable (under lam (binders (x ∷ xs)) body.term) in
    if x.type.is_nat G then opened x.names (under lam (binders xs) body.term) whole G else whole G

-- `\ teles -> body`
abbrev pub lambda : List Tele → Reading → Reading
lambda xs body = record (plain (under lam (binders xs) body.term)) { motive = motive_of xs body }

abbrev pub elements : List Given → List (Element Word)
elements [] = []
elements (Argument e ∷ es) = argument e.term ∷ elements es
elements (At r ∷ es) = at r ∷ elements es

-- a name at the place, applied; `suc` and `natrec` take arguments of their own
abbrev pub headed : ℕ → Meaning → List Given → Means Word Tree
headed s (BuiltInName built_in.Suc) (Argument n ∷ es) G = do
  t ← n.term G
  apply_all (suc t) (elements es) G
headed s (BuiltInName built_in.NatRec)
    (Argument P ∷ Argument a ∷ Argument b ∷ Argument n ∷ es) G = do
      motive ← P.motive G
      base ← a.term G
      step ← b.term G
      t ← n.term G
      apply_all (natrec motive base step t) (elements es) G
headed s m es G = application (λ H. as_term s m) (elements es) G

-- sides of `glue`, of `comp` and `fill`, and of `Glue` and `unglue`
abbrev pub term_sides : List SideOf → List (Side Word Tree)
term_sides = map (λ s. record { equations = s.equations; value = s.body.term })

abbrev pub line_sides : List SideOf → List (Side Word Tree)
line_sides = map (λ s. record { equations = s.equations; value = s.body.line })

abbrev pub pair_sides : List SideOf → List (Side Word (Tree × Tree))
pair_sides = map (λ s. record { equations = s.equations; value = s.body.pair s.at })

module _ (bytes : List ℕ) where
  -- the word that is written there
  abbrev pub word : Span → Word
  word s = slice_range bytes s.start s.end

  abbrev pub stands_for : Scope Word → Span → Meaning
  stands_for G s = meaning G (word s)

  abbrev pub term_at : Span → Means Word Tree
  term_at s G = as_term s.start (stands_for G s)

  abbrev pub name_at : Span → Means Word Tree
  name_at s G = with Var (as_name s.start (stands_for G s))

  abbrev pub formula : text.Formula → Means Word Tree
  formula (text.Zero s) G = done i0
  formula (text.One s) G = done i1
  formula (text.Variable s) G = name_at s G
  formula (text.Negate s f) G = one neg (formula f) G
  formula (text.Meet s f g) G = two min (formula f) (formula g) G
  formula (text.Join s f g) G = two max (formula f) (formula g) G

  abbrev pub equations : List Equation → List (Means Word Tree)
  equations = map (λ e. equation e.end (name_at e.name))

  -- A name is defined once in a block, but for `_`.
  abbrev pub once : List Word → Span → Translated Word (Unit {0})
  once seen s =
      if not (is_nameless (word s)) && list_any (bytes_eq (word s)) seen
      then refused s.start Twice tt else done tt

  -- the scope after definitions, where these names are defined before
  abbrev pub block_after : List Word → List Written → Means Word (Scope Word)
  block_after seen [] G = done G
  block_after seen (d ∷ ds) G = do
    H ← define (word d.name) d.means G
    once seen d.name
    block_after (word d.name ∷ seen) ds H

  abbrev pub block : List Written → Means Word (Scope Word)
  block = block_after []

  abbrev mutual
    pub reading : text.Tree → Reading
    reading (text.Let s ds e) = plain (after (block (defs ds)) (reading e).term)
    reading (text.Lambda s xs e) = lambda (teles xs) (reading e)
    reading (text.PathLambda s is e) = path_lambda (map word is) (reading e)
    reading (text.Pi s xs e) = plain (under pi (binders (teles xs)) (reading e).term)
    reading (text.Sigma s xs e) = plain (under sig (binders (teles xs)) (reading e).term)
    reading (text.Arrow s a b) =
        plain (under pi (binders (nameless (reading a) ∷ [])) (reading b).term)
    reading (text.Apply s (text.Name n) es) =
        plain (λ G. headed n.start (stands_for G n) (given es) G)
    reading (text.Apply s f es) = plain (application (reading f).term (elements (given es)))
    reading (text.PathP s l a b) =
        plain (path_type (reading l).line (reading a).term (reading b).term)
    reading (text.Comp s l a ss) =
        plain (composition (reading l).line (reading a).term (line_sides (sides ss)))
    reading (text.Fill s l a ss) =
        plain (fill (reading l).line (reading a).term (line_sides (sides ss)))
    reading (text.Transport s l a) = plain (transport (reading l).line (reading a).term)
    reading (text.GlueType s a ss) =
        plain (glue_of_types (reading a).term (pair_sides (sides ss)))
    reading (text.GlueTerm s a ss) =
        plain (glue_of_terms (reading a).term (term_sides (sides ss)))
    reading (text.Unglue s a ss) = plain (unglued (reading a).term (pair_sides (sides ss)))
    reading (text.Project s e ps) = plain (one (λ c. project c ps) (reading e).term)
    reading (text.Universe s) = plain (λ G. done universe)
    reading (text.Name s) =
        record (plain (term_at s)) { is_nat = λ G. is_built_in_nat (stands_for G s) }
    reading (text.Brackets s es) = brackets (components es)
    reading _ = plain (λ G. done universe)

    pub components : text.Trees → List Reading
    components text.none = []
    components (text.more e es) = reading e ∷ components es

    pub given : text.Trees → List Given
    given text.none = []
    given (text.more (text.At s f) es) = At (formula f) ∷ given es
    given (text.more e es) = Argument (reading e) ∷ given es

    pub teles : text.Trees → List Tele
    teles text.none = []
    teles (text.more (text.Tele xs t) rest) =
        record { names = map word xs; type = reading t } ∷ teles rest
    teles (text.more e rest) = teles rest

    pub sides : text.Trees → List SideOf
    sides text.none = []
    sides (text.more (text.Side es e) rest) =
        record { equations = equations es; at = (span_of e).start; body = reading e } ∷ sides rest
    sides (text.more e rest) = sides rest

    pub defs : text.Trees → List Written
    defs text.none = []
    defs (text.more (text.Def x xs t e ds) rest) =
        record {
          name = x;
          means = defined (binders (teles xs)) (reading t).term (block (defs ds)) (reading e).term;
        } ∷ defs rest
    defs (text.more e rest) = defs rest
