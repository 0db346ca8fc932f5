-- What is true wherever the faces of a context are.
use Rattle.std.proofs.Common.{◌≡◌, suc, ◌-◌, ◌&&◌, List, sym, ◌∙◌, ap₂, arith}
use Rattle.std.proofs.lemmas.Bool.{and_parts}
use Rattle.std.specs.Prelude.{◌↔◌}
use Rattle.trees.specs.Trees.{Tree}
use Rattle.trees.specs.Judgements.{Context}
use Rattle.points.specs.Points.{Point, Free}
use Rattle.faces.specs.declared.equations.Equation.{Equation}
use Rattle.faces.specs.Faces.{face_truth, HoldsUnder}
use Rattle.conditions.specs.Sides.{is_face, is_true, Satisfies, HoldsIn}
use Rattle.side_conditions.specs.Levels.{count_indices, point_by_index}
use Rattle.side_conditions.specs.Readings.{AreFacesOf}
use Rattle.side_conditions.proofs.LevelLaws.{by_index-twice}
use Rattle.side_conditions.proofs.AgreementLaws.{SameCoordinates, truth-same, satisfies-same}

-- a point by index is that of its point by level
pub point-again : (G : Context) (y : Point) → SameCoordinates (count_indices G) (point_by_index G (point_by_index G y)) y
point-again G y k lt = by_index-twice Free (count_indices G) y k (count_indices G - suc k) (omega arith)

pub satisfies-again : (G : Context) (y : Point) → Satisfies G y → Satisfies G (point_by_index G (point_by_index G y))
satisfies-again G y s = satisfies-same G y (point_by_index G (point_by_index G y)) (λ k lt. sym (point-again G y k lt)) s

-- a tree whose truth at points, by level, is that of a face
pub holds_exact : (G : Context) (faces : List (List (List Equation))) → AreFacesOf G faces → (p : Tree) (face : List (List Equation)) → ((x : Point) → face_truth face x ≡ (is_face G p && is_true (point_by_index G x) p)) → HoldsUnder faces face ↔ HoldsIn G p
holds_exact G faces given p face truth = (
  λ h y s.
      let x = point_by_index G y in
      let t = h x ((given.exact x).0 (satisfies-again G y s)) in
      let both = and_parts (is_face G p) (is_true (point_by_index G x) p) (sym (truth x) ∙ t) in
      (both.0, sym (truth-same G (point_by_index G x) y (point-again G y) p both.0) ∙ both.1),
  λ h x all. let both = h (point_by_index G x) ((given.exact x).1 all) in truth x ∙ ap₂ ◌&&◌ both.0 both.1,
)
