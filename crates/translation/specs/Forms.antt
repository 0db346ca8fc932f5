-- What each form of a text means, whether its names are words or numbers.
use Rattle.std.specs.Prelude.{List, [], ◌∷◌, map}
use Rattle.syntax.specs.declared.formula.End.{End}
use Rattle.syntax.specs.declared.formula.End.TheVariants as end
use Rattle.syntax.specs.declared.formula.Projection.{Projection}
use Rattle.syntax.specs.declared.formula.Projection.TheVariants as projection
use Rattle.trees.specs.Trees.{Tree}
use Rattle.translation.specs.Terms.{innermost, lifted, universe, pi, lam, app, pair, fst, snd}
use Rattle.translation.specs.Terms.{pathp, plam, papp, eq0, eq1, comp, glue_type, glue, unglue}
use Rattle.translation.specs.Systems.{On, on, each, cover, body, line_body, meet_of, filling}
use Rattle.translation.specs.Scopes.{Variable, Interval, Face, Definition, Scope, context_of}
use Rattle.translation.specs.Translated.{Translated, done, ◌>>=◌, ◌>>◌, with, states}

-- what a text means in each scope
abbrev pub Means : Type 0 → Type 0 → Type 0
Means N A = Scope N → Translated N A

-- variables of one type, which stands before them all
pub record Binder (N : Type 0) : Type 0 where
  pub names : List N
  pub type : Means N Tree

-- what a term is applied to
pub data Element (N : Type 0) : Type 0 where
  Argument : Means N Tree → Element N
  At : Means N Tree → Element N

-- a side of a system: its equations, and what stands on them
pub record Side (N A : Type 0) : Type 0 where
  pub equations : List (Means N Tree)
  pub value : Means N A

abbrev pub project : Tree → List Projection → Tree
project c [] = c
project c (projection.First s ∷ ps) = project (fst c) ps
project c (projection.Second s ∷ ps) = project (snd c) ps

-- of sides that are pairs
abbrev pub types : List (On (Tree × Tree)) → List (On Tree)
types = map (each (λ s. s.0))

abbrev pub equivalences : List (On (Tree × Tree)) → List (On Tree)
equivalences = map (each (λ s. s.1))

module _ {N : Type 0} where
  abbrev pub one : (Tree → Tree) → Means N Tree → Means N Tree
  one f a G = with f (a G)

  abbrev pub two : (Tree → Tree → Tree) → Means N Tree → Means N Tree → Means N Tree
  two f a b G = do
    x ← a G
    y ← b G
    done (f x y)

  -- texts in order
  abbrev pub all : {A : Type 0} → List (Means N A) → Means N (List A)
  all [] G = done []
  all (a ∷ as') G = do
    x ← a G
    xs ← all as' G
    done (x ∷ xs)

  -- binders

  -- `make A` for each variable of the type A, the first outermost
  abbrev pub over : {B : Type 0} → (Tree → B → B) → List N → Tree → Means N B → Means N B
  over make [] A inner G = inner G
  over make (x ∷ xs) A inner G =
      with (make A) (over make xs (lifted A) inner (Variable x A ∷ G))

  abbrev pub under : {B : Type 0} → (Tree → B → B) → List (Binder N) → Means N B → Means N B
  under make [] inner G = inner G
  under make (b ∷ bs) inner G = do
    A ← b.type G
    over make b.names A (under make bs inner) G

  abbrev pub under_names : List N → Means N Tree → Means N Tree
  under_names [] inner G = inner G
  under_names (i ∷ is) inner G = with plam (under_names is inner (Interval i ∷ G))

  -- A line that is not written as one is applied to its name, and a motive to its variable.
  abbrev pub applied_to_name : Means N Tree → Means N Tree
  applied_to_name = one (λ t. papp (lifted t) innermost)

  abbrev pub applied_to_variable : Means N Tree → Means N Tree
  applied_to_variable = one (λ t. app (lifted t) innermost)

  -- terms

  abbrev pub apply_all : Tree → List (Element N) → Means N Tree
  apply_all f [] G = done f
  apply_all f (Argument a ∷ es) G = do
    x ← a G
    apply_all (app f x) es G
  apply_all f (At r ∷ es) G = do
    x ← r G
    apply_all (papp f x) es G

  abbrev pub application : Means N Tree → List (Element N) → Means N Tree
  application f es G = do
    t ← f G
    apply_all t es G

  -- `(a, b, c)` is `(a, (b, c))`; none is empty
  abbrev pub tuple : List (Means N Tree) → Means N Tree
  tuple [] G = done universe
  tuple (a ∷ []) G = a G
  tuple (a ∷ b ∷ rest) G = two pair a (tuple (b ∷ rest)) G

  -- paths, compositions and glueing; `line` is a tree over a name

  abbrev pub path_type : Means N Tree → Means N Tree → Means N Tree → Means N Tree
  path_type line a b G = do
    A ← line G
    u ← a G
    v ← b G
    done (pathp A u v)

  abbrev pub equation : End → Means N Tree → Means N Tree
  equation end.Zero = one eq0
  equation end.One = one eq1

  abbrev pub side : {A : Type 0} → Side N A → Means N (On A)
  side s G = do
    equations ← all s.equations G
    let p = meet_of equations
    a ← s.value (Face p ∷ G)
    done (on p a)

  abbrev pub system : {A : Type 0} → List (Side N A) → Means N (List (On A))
  system ss = all (map side ss)

  abbrev pub composition : Means N Tree → Means N Tree → List (Side N Tree) → Means N Tree
  composition line base sides G = do
    A ← line G
    a ← base G
    S ← system sides G
    done (comp A (cover S) (line_body S) a)

  abbrev pub transport : Means N Tree → Means N Tree → Means N Tree
  transport line base = composition line base []

  abbrev pub fill : Means N Tree → Means N Tree → List (Side N Tree) → Means N Tree
  fill line base sides G = do
    A ← line G
    a ← base G
    S ← system sides G
    done (filling A (cover S) (line_body S) a)

  abbrev pub glue_of_types : Means N Tree → List (Side N (Tree × Tree)) → Means N Tree
  glue_of_types base sides G = do
    A ← base G
    S ← system sides G
    done (glue_type A (cover S) (body (types S)) (body (equivalences S)))

  abbrev pub glue_of_terms : Means N Tree → List (Side N Tree) → Means N Tree
  glue_of_terms base sides G = do
    a ← base G
    S ← system sides G
    done (glue (cover S) (body S) a)

  abbrev pub unglued : Means N Tree → List (Side N (Tree × Tree)) → Means N Tree
  unglued base sides G = do
    b ← base G
    S ← system sides G
    done (unglue (cover S) (body (types S)) (body (equivalences S)) b)

  -- definitions

  -- `block in term`
  abbrev pub after : Means N (Scope N) → Means N Tree → Means N Tree
  after block term G = do
    H ← block G
    term H

  -- the type and the body over the binders; the block is not in scope in the type
  abbrev pub defined :
      List (Binder N) → Means N Tree → Means N (Scope N) → Means N Tree → Means N (Tree × Tree)
  defined binders type block term =
      under (λ A s. (pi A s.0, lam A s.1)) binders λ G. do
        B ← type G
        t ← after block term G
        done (B, t)

  -- a definition binds its name behind it, and is stated after those that it holds
  abbrev pub define : N → Means N (Tree × Tree) → Means N (Scope N)
  define x means G = do
    (A, t) ← means G
    states (record { name = x; context = context_of G; type = A; body = t })
    done (Definition x t ∷ G)
