-- What contracts see of contexts.
use Rattle.std.specs.Prelude.{◌≡◌, List, Option, Some}
use Rattle.std.specs.List.{list_all}
use Rattle.trees.specs.Judgements.{Context, Nil}
use Rattle.trees.specs.Things.{Thing, AContext}
use Rattle.points.specs.Points.{Point}
use Rattle.faces.specs.declared.equations.Equation.{Equation}
use Rattle.faces.specs.Faces.{face_truth}

-- the context that a thing is
abbrev pub context_of : Option Thing → Context
context_of (Some (AContext G)) = G
context_of _ = Nil

-- a face that is true where all of these are
abbrev pub IsMeetOf : List (List (List Equation)) → List (List Equation) → Type 0
IsMeetOf faces met = (x : Point) → face_truth met x ≡ list_all (λ g. face_truth g x) faces
