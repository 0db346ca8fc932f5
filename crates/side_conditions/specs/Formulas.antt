-- Whether two trees are formulas of one value in a context.
use Rattle.std.specs.Prelude.{◌≡◌, ◌↔◌, ◌⊎◌, Bool, IsTrue, List, Option, MatchOption}
use Rattle.trees.specs.Trees.{Tree}
use Rattle.trees.specs.Judgements.{Context}
use Rattle.interval.specs.declared.literals.Literal.{Literal}
use Rattle.faces.specs.declared.equations.Equation.{Equation}
use Rattle.conditions.specs.Sides.{is_formula, is_face, SameIn}
use Rattle.side_conditions.specs.Readings.{IsFormOf, IsFaceOf}

-- both are formulas, and this tells whether they are of one value
pub record AreFormulas (G : Context) (r s : Tree) (same : Bool) : Type 0 where
  pub left : IsTrue (is_formula G r)
  pub right : IsTrue (is_formula G s)
  pub exact : IsTrue same ↔ SameIn G r s

-- it is not told exactly where they are not both formulas
abbrev pub AreSameFormulas : Context → Tree → Tree → Option Bool → Type 0
AreSameFormulas G r s found =
    MatchOption found (IsTrue (is_formula G r) → IsTrue (is_formula G s) → ⊥) (AreFormulas G r s)

-- the trees may stand at one place of alike substitutions
abbrev pub AreAlike : Context → Tree → Tree → Type 0
AreAlike G r s = (r ≡ s) ⊎ SameIn G r s

-- the form is that of the tree, or the tree is no formula
abbrev pub IsFormOr : Context → Tree → Option (List (List Literal)) → Type 0
IsFormOr G t form = MatchOption form (IsTrue (is_formula G t) → ⊥) (IsFormOf G t)

-- the face is that of the tree, or the tree is none
abbrev pub IsFaceOr : Context → Tree → Option (List (List Equation)) → Type 0
IsFaceOr G t face = MatchOption face (IsTrue (is_face G t) → ⊥) (IsFaceOf G t)
