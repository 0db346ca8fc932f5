use Rattle.std.proofs.Common.{◌≡◌, take}
use Rattle.points.specs.Points.{Point, valuation_of}
use Rattle.interval.specs.Forms.{form_value}
use Rattle.faces.specs.Faces.{face_truth}
use Rattle.faces.proofs.faces.Face.where_zero.Given as goal

abbrev pub invariant-loop-product : goal.invariant-loop-product
invariant-loop-product l =
    (x : Point) → face_truth l.face x ≡ (form_value (take l.product-index l.product-items) (valuation_of x)).fails
