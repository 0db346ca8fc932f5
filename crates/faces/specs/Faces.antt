-- Where faces are true.
use Rattle.std.specs.Prelude.{◌≡◌, ◌≢◌, ℕ, Bool, List, All, Contains, IsTrue}
use Rattle.std.specs.List.{list_any, list_all}
use Rattle.std.specs.List.Sorted.{IsStrictlySortedBy}
use Rattle.points.specs.Points.{Point}
use Rattle.faces.specs.declared.equations.Equation.{Equation}
use Rattle.faces.specs.Equations.{name_cmp, equation_truth}

-- a conjunction is true where all its equations are: that of none everywhere
abbrev pub conj_truth : List Equation → Point → Bool
conj_truth conj point = list_all (λ equation. equation_truth equation point) conj

-- a face is true where one of its conjunctions is: that of none nowhere
abbrev pub face_truth : List (List Equation) → Point → Bool
face_truth face point = list_any (λ conj. conj_truth conj point) face

-- the face is true at these points, and at no others
abbrev pub IsTrueWhere : (Point → Bool) → List (List Equation) → Type 0
IsTrueWhere truth face = (x : Point) → face_truth face x ≡ truth x

-- a face is true at every point at which all the given faces are
abbrev pub HoldsUnder : List (List (List Equation)) → List (List Equation) → Type 0
HoldsUnder given face =
    (x : Point) → All (λ g. IsTrue (face_truth g x)) given → IsTrue (face_truth face x)

-- no name stands at both ends
pub record IsConsistent (conj : List Equation) : Type 0 where
  pub one_end : (e f : Equation) → Contains conj e → Contains conj f → e.name ≡ f.name → e ≡ f

-- the names of a conjunction rise, so that none stands twice
abbrev pub HasRisingNames : List Equation → Type 0
HasRisingNames = IsStrictlySortedBy name_cmp

-- no conjunction is true wherever another one is
pub record IsIrredundant (face : List (List Equation)) : Type 0 where
  pub apart : (c d : List Equation) → Contains face c → Contains face d
      → ((x : Point) → IsTrue (conj_truth c x) → IsTrue (conj_truth d x)) → c ≡ d

-- no equation is of this name
abbrev pub LacksName : ℕ → List (List Equation) → Type 0
LacksName name face = All (All (λ equation. equation.name ≢ name)) face
