use Rattle.std.proofs.Common.{◌≡◌, ◌&&◌, List}
use Rattle.std.proofs.lemmas.Result.{IfOk-weaker}
use Rattle.points.specs.Points.{Point}
use Rattle.faces.specs.declared.equations.Equation.{Equation}
use Rattle.faces.specs.Faces.{face_truth}
use Rattle.faces.specs.Meets.{IsMeetOutside}
use Rattle.faces.proofs.Meeting.{met_whole}
use Rattle.faces.proofs.faces.FaceLattice.meet.Goals as goal

pub returns : goal.returns
returns c =
    let Face : Type 0 = List (List Equation) in
    let Both : Face → Type 0 = λ face. (x : Point) → face_truth face x ≡ (face_truth c.args.self.now x && face_truth c.args.other.now x) in
    IfOk-weaker c.meet_outside-2.result (IsMeetOutside c.in_ok-bottom.field-0 c.args.self.now c.args.other.now) Both
    (λ face m. met_whole c.in_ok-bottom.field-0 c.args.self.now c.args.other.now face c.in_ok-bottom.ensures m)
    c.meet_outside-2.ensures
