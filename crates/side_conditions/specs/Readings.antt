-- What makes a form or a face that of a tree, and faces those of a context. Names have their level
-- as number.
use Rattle.std.specs.Prelude.{◌≡◌, ◌↔◌, Bool, false, ◌||◌, List, IsTrue, Option, Some, None}
use Rattle.std.specs.Prelude.{MatchOption}
use Rattle.std.specs.List.{All}
use Rattle.trees.specs.Trees.{Tree}
use Rattle.trees.specs.Judgements.{Context}
use Rattle.points.specs.Values.{Valuation}
use Rattle.points.specs.Points.{Point}
use Rattle.interval.specs.declared.literals.Literal.{Literal}
use Rattle.interval.specs.Forms.{form_value}
use Rattle.faces.specs.declared.equations.Equation.{Equation}
use Rattle.faces.specs.Faces.{face_truth}
use Rattle.side_conditions.specs.declared.reading.Reading.{Reading}
use Rattle.side_conditions.specs.declared.reading.Reading.TheVariants as reading
use Rattle.side_conditions.specs.declared.reading.Detail.{Detail}
use Rattle.side_conditions.specs.declared.reading.Detail.TheVariants as detail
use Rattle.conditions.specs.Sides.{is_formula, is_face, value, is_true, Satisfies}
use Rattle.side_conditions.specs.Levels.{values_by_index, point_by_index}

-- the tree is a formula over the names of G, and the form has its value under every valuation
pub record IsFormOf (G : Context) (t : Tree) (form : List (List Literal)) : Type 0 where
  pub is_one : IsTrue (is_formula G t)
  pub value_is : (v : Valuation) → form_value form v ≡ value (values_by_index G v) t

-- the tree is a face over the names of G, and the face is true where it is
pub record IsFaceOf (G : Context) (t : Tree) (face : List (List Equation)) : Type 0 where
  pub is_one : IsTrue (is_face G t)
  pub truth_is : (x : Point) → face_truth face x ≡ is_true (point_by_index G x) t

-- all of these are true exactly where all faces of G are
pub record AreFacesOf (G : Context) (faces : List (List (List Equation))) : Type 0 where
  pub exact : (x : Point)
      → Satisfies G (point_by_index G x) ↔ All (λ g. IsTrue (face_truth g x)) faces

abbrev pub IsNowhereTrue : List (List Equation) → Type 0
IsNowhereTrue face = (x : Point) → face_truth face x ≡ false

-- it is of the tree's kind
abbrev pub IsKindOf : Context → Tree → Reading → Type 0
IsKindOf G t (reading.Form form) = IsTrue (is_formula G t)
IsKindOf G t (reading.Face face) = IsTrue (is_face G t)

-- it has the tree's value
abbrev pub IsValueOf : Context → Tree → Reading → Type 0
IsValueOf G t (reading.Form form) = IsFormOf G t form
IsValueOf G t (reading.Face face) = IsFaceOf G t face

-- values are told
abbrev pub IsValued : Detail → Type 0
IsValued d = d ≡ detail.Value

-- it is of the tree's kind, and has its value where values are told
abbrev pub IsReadingOf : Type 0 → Context → Tree → Reading → Type 0
IsReadingOf Valued G t r = IsKindOf G t r × (Valued → IsValueOf G t r)

-- a formula or a face
abbrev pub is_readable : Context → Tree → Bool
is_readable G t = is_formula G t || is_face G t

-- the tree was read, unless it is no formula and no face
abbrev pub Reads : Type 0 → Context → Tree → Option Reading → Type 0
Reads Valued G t found = MatchOption found (IsTrue (is_readable G t) → ⊥) (IsReadingOf Valued G t)

abbrev pub form_in : Reading → Option (List (List Literal))
form_in (reading.Form form) = Some form
form_in (reading.Face face) = None

abbrev pub face_in : Reading → Option (List (List Equation))
face_in (reading.Form form) = None
face_in (reading.Face face) = Some face
