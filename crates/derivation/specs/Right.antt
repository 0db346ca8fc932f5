-- Which rows of a derivation file are right, and what its roots are.
use Rattle.std.specs.Prelude.{◌≡◌, ℕ, ◌+◌, ◌<◌, ◌≤◌, max, List, [], ◌∷◌, ◌++◌, length}
use Rattle.std.specs.Prelude.{take, Option, Some, None, option_and_then}
use Rattle.std.specs.Option.{option_to_list}
use Rattle.std.specs.List.{flat_map}
use Rattle.theory.specs.declared.rule.RuleName.{RuleName}
use Rattle.trees.specs.Judgements.{Nil, Judgement}
use Rattle.trees.specs.Trees.{Var as IndexOf, shift_by}
use Rattle.trees.specs.Things.{Thing, ATree, ASubst, AContext, Meanings, both, meanings}
use Rattle.trees.specs.Things.{made, instance_of, pushed_on, with_variable}
use Rattle.trees.specs.Things.{with_a_name, with_a_face}
use Rattle.rules.specs.Instances.{IsInstance}
use Rattle.deriv_file.specs.declared.row.Row.{Row}
use Rattle.deriv_file.specs.declared.row.Row.TheVariants.{Header, Var, Make, Instance, Shift}
use Rattle.deriv_file.specs.declared.row.Row.TheVariants.{Push, CtxNil, CtxVar, CtxName}
use Rattle.deriv_file.specs.declared.row.Row.TheVariants.{CtxFace, Node, Root}
use Rattle.deriv_file.specs.Spelling.{newest}
use Rattle.deriv_file.specs.Lines.{lines, SpellRows}
use Rattle.derivation.specs.Meanings.{Meaning, Means, Concludes, Nothing, thing_at}
use Rattle.derivation.specs.Meanings.{conclusion_at, conclusions_at, things_at}

-- A node concludes J: what it names as parts are things, what it names as premises are nodes, and
-- by its rule these things and the conclusions of these nodes give J.
pub record RightNode (before : List Meaning) (rule : RuleName)
    (parts premises : List ℕ) (J : Judgement) : Type 0 where
  pub xs : List Thing
  pub Js : List Judgement
  pub parts_are : things_at before parts ≡ Some xs
  pub premises_are : conclusions_at before premises ≡ Some Js
  pub instance : IsInstance rule xs Js J

-- the tree, substitution or context that a row is, where the rows that it names are things of the
-- right kinds
abbrev pub thing_made : Meanings → Row → Option Thing
thing_made f (Var index) = Some (ATree (IndexOf index))
thing_made f (Make op kids) = option_and_then (made op) (meanings f kids)
thing_made f (Instance term sub) = both instance_of (f term) (f sub)
thing_made f (Shift by) = Some (ASubst (shift_by by))
thing_made f (Push sub term) = both pushed_on (f sub) (f term)
thing_made f CtxNil = Some (AContext Nil)
thing_made f (CtxVar ctx ty) = both with_variable (f ctx) (f ty)
thing_made f (CtxName ctx) = option_and_then with_a_name (f ctx)
thing_made f (CtxFace ctx face) = both with_a_face (f ctx) (f face)
thing_made f (Header version) = None
thing_made f (Node rule parts premises) = None
thing_made f (Root node) = None

-- The row is right after right rows with these meanings, and means that. Row 0 is the header, and
-- no other row is.
abbrev pub RightRow : List Meaning → Row → Meaning → Type 0
RightRow [] (Header version) m = m ≡ Nothing
RightRow [] row m = ⊥
RightRow before (Header version) m = ⊥
RightRow before (Node rule parts premises) m =
    (J : Judgement) × RightNode before rule parts premises J × (m ≡ Concludes J)
RightRow before (Root node) m =
    (J : Judgement) × (conclusion_at before node ≡ Some J) × (m ≡ Nothing)
RightRow before row m = (x : Thing) × (thing_made (thing_at before) row ≡ Some x) × (m ≡ Means x)

-- these rows are right, one after the other, and then all rows mean that
abbrev pub RightRows : List Meaning → List Row → List Meaning → Type 0
RightRows before [] all = all ≡ before
RightRows before (row ∷ rows) all =
    (m : Meaning) × RightRow before row m × RightRows (before ++ m ∷ []) rows all

-- the first n lines spell these rows, which are right and mean that
pub record Begins (bytes : List ℕ) (n : ℕ) (rows : List Row) (all : List Meaning) : Type 0 where
  pub within : n ≤ length (lines bytes)
  pub spelt : SpellRows newest 0 (take n (lines bytes)) rows
  pub right : RightRows [] rows all

-- row k is right, and those before it are
abbrev pub Right : List ℕ → ℕ → Type 0
Right bytes k = (rows : List Row) × (all : List Meaning) × Begins bytes (k + 1) rows all

-- the file has a row, and every row is right
abbrev pub AllRight : List ℕ → Type 0
AllRight bytes = (0 < length (lines bytes)) × ((k : ℕ) → k < length (lines bytes) → Right bytes k)

-- the least row that is not right, which is 0 for the empty file
pub record FirstBad (bytes : List ℕ) (k : ℕ) : Type 0 where
  pub within : k < max 1 (length (lines bytes))
  pub before : (j : ℕ) → j < k → Right bytes j
  pub bad : Right bytes k → ⊥

-- the judgements of the root rows, in order
abbrev pub root_of : List Meaning → Row → List Judgement
root_of all (Root node) = option_to_list (conclusion_at all node)
root_of all row = []

abbrev pub roots_of : List Meaning → List Row → List Judgement
roots_of all rows = flat_map (root_of all) rows

-- a file whose rows all are right has that number of rows and these roots
pub record Derives (bytes : List ℕ) (rows : ℕ) (roots : List Judgement) : Type 0 where
  pub spelt : List Row
  pub all : List Meaning
  pub begins : Begins bytes (length (lines bytes)) spelt all
  pub rows_are : rows ≡ length spelt
  pub roots_are : roots ≡ roots_of all spelt
