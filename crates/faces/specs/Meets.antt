-- Meets without what implies a face.
use Rattle.std.specs.Prelude.{◌⊎◌, List, Contains, IsTrue}
use Rattle.antichains.specs.Antichains.{IsWithin, IsUnion}
use Rattle.points.specs.Points.{Point}
use Rattle.faces.specs.declared.equations.Equation.{Equation}
use Rattle.faces.specs.Faces.{conj_truth, face_truth, IsConsistent}

-- a face is true wherever both conjunctions are
abbrev pub ImpliesTogether : List Equation → List Equation → List (List Equation) → Type 0
ImpliesTogether c d face =
    (x : Point) → IsTrue (conj_truth c x) → IsTrue (conj_truth d x) → IsTrue (face_truth face x)

-- the first face is true wherever both others are
abbrev pub CoversMeet : List (List Equation) → List (List Equation) → List (List Equation) → Type 0
CoversMeet face left right =
    (x : Point) → IsTrue (face_truth left x) →
    IsTrue (face_truth right x) → IsTrue (face_truth face x)

-- no conjunction of the face is within this one
abbrev pub IsOutside : List (List Equation) → List Equation → Type 0
IsOutside face conj = (part : List Equation) → Contains face part → IsWithin part conj → ⊥

-- the conjunction of two, that does not imply the face
pub record IsMergeOutside (excluded : List (List Equation)) (c d both : List Equation)
    : Type 0 where
  pub union : IsUnion c d both
  pub consistent : IsConsistent both
  pub outside : IsOutside excluded both

-- the conjunctions of the meet of two faces that do not imply a third one
pub record IsMeetOutside (excluded left right face : List (List Equation)) : Type 0 where
  pub within : (x : Point) → IsTrue (face_truth face x)
      → IsTrue (face_truth left x) × IsTrue (face_truth right x)
  pub whole : (x : Point) → IsTrue (face_truth left x) → IsTrue (face_truth right x)
      → IsTrue (face_truth face x) ⊎ IsTrue (face_truth excluded x)
  pub outside : (conj : List Equation) → Contains face conj → IsOutside excluded conj
