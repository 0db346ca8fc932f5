-- Pairs of patterns that differ by one index, that the test does not find the same, and that mean
-- different things at the parts that stand beside them.
use Rattle.std.specs.Prelude.{◌≢◌, ℕ, Bool, not, List, [], ◌∷◌, codes}
use Rattle.trees.specs.Language.{Ty, Sb}
use Rattle.trees.specs.Trees.{Tree, Var, id}
use Rattle.trees.specs.Things.{Thing, ATree, ASubst}
use Rattle.patterns.specs.Patterns.{Pattern, Part, Index, Under, SubstPattern, SubstPart, ShiftBy}
use Rattle.patterns.specs.Patterns.{Pushed, Then, Empty, JudgementPattern, patterns}
use Rattle.patterns.specs.Values.{parts_of, judgement_of}
use Rattle.patterns.specs.Tests.{same_judgement}
use Rattle.patterns.specs.Built.{univ, lam, pi}

pub record Refusal : Type 0 where
  pub name : List ℕ
  pub left : JudgementPattern
  pub right : JudgementPattern
  -- where they differ
  pub parts : List Thing

-- the test does not find the two sides the same
abbrev pub is_refused : Refusal → Bool
is_refused r = not (same_judgement r.left r.right)

-- the two sides mean different things at those parts
abbrev pub Differ : Refusal → Type 0
Differ r = judgement_of (parts_of r.parts) r.left ≢ judgement_of (parts_of r.parts) r.right

-- the parts: trees A and B, and a substitution d
abbrev A : Pattern
A = Part 0

abbrev B : Pattern
B = Part 1

abbrev d : SubstPattern
d = SubstPart 2

abbrev differ : List ℕ → Pattern → Pattern → Tree → Tree → Refusal
differ name p q tree_a tree_b = record {
  name = name;
  left = Ty Empty p;
  right = Ty Empty q;
  parts = ATree tree_a ∷ ATree tree_b ∷ ASubst id ∷ [];
}

abbrev pub one_index_off : List Refusal
one_index_off =
    -- a test that ignores the shift, or another number, of what is stuck would find these the same
    differ (codes "shift of a part") (Under A (ShiftBy 1)) (Under A (ShiftBy 2)) (Var 0) (Var 0)
    ∷ differ (codes "shift after an abstract substitution")
    (Under A (Then d (ShiftBy 1))) (Under A (Then d (ShiftBy 2))) (Var 0) (Var 0)
    ∷ differ (codes "index under an abstract substitution")
    (Under (Index 0) d) (Under (Index 1) d) (Var 0) (Var 0)
    ∷ differ (codes "entries dropped from an abstract substitution")
    (Under A (Then (ShiftBy 1) d)) (Under A (Then (ShiftBy 2) d)) (Var 0) (Var 0)
    -- one that trims a tail that isn't one
    ∷ differ (codes "tail with a greater shift")
    (Under A (Pushed (ShiftBy 2) (Index 0))) A (Var 1) (Var 0)
    ∷ differ (codes "tail with another variable")
    (Under A (Pushed (ShiftBy 1) (Index 1))) A (Var 0) (Var 0)
    ∷ differ (codes "tail that drops two entries")
    (Under A (Pushed (Then (ShiftBy 2) d) (Under (Index 0) d))) (Under A d) (Var 1) (Var 0)
    ∷ differ (codes "tail with the second entry first")
    (Under A (Pushed (Then (ShiftBy 1) d) (Under (Index 1) d))) (Under A d) (Var 0) (Var 0)
    -- a normaliser that forgets the cutoff under a binder
    ∷ differ (codes "index that a binder keeps") (Under (lam A (Index 0)) (ShiftBy 1))
    (lam (Under A (ShiftBy 1)) (Index 1)) (Var 0) (Var 0)
    ∷ differ (codes "index past a binder") (Under (lam A (Index 1)) (ShiftBy 1))
    (lam (Under A (ShiftBy 1)) (Index 1)) (Var 0) (Var 0)
    ∷ differ (codes "part under a binder") (Under (pi A B) (ShiftBy 1))
    (pi (Under A (ShiftBy 1)) (Under B (ShiftBy 1))) (Var 0) (Var 0)
    ∷ differ (codes "index that a binder keeps in a pushed tree")
    (Under (lam univ (Index 1))
    (Pushed (ShiftBy 0) (lam univ (Index 0))))
    (lam univ (lam univ (Index 1))) (Var 0) (Var 0)
    -- one that mixes up the parts
    ∷ differ (codes "another part") A B (Var 0) (Var 1)
    -- these act alike, and are two substitutions
    ∷ record {
      name = codes "another list and shift";
      left = Sb Empty (Pushed (ShiftBy 1) (Index 0)) Empty;
      right = Sb Empty (ShiftBy 0) Empty;
      parts = [];
    }
    ∷ []
