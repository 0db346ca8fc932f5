use Rattle.std.proofs.Common.{Bool, IsTrue, ◌↔◌}
use Rattle.std.proofs.lemmas.List.{take_all}
use Rattle.std.proofs.lemmas.Result.{IfOk-weaker}
use Rattle.faces.specs.Faces.{HoldsUnder}
use Rattle.faces.specs.Meets.{CoversMeet}
use Rattle.faces.proofs.Open.{open_first, open_more, holds_early, holds_at_last, holds_under_none}
use Rattle.faces.proofs.faces.Face.holds_under.Goals as goal

pub loop-face-init : goal.loop-face-init
loop-face-init c = open_first c.args.self.now c.in_ok-open.open c.in_ok-open.ensures

pub loop-face-preserved : goal.loop-face-preserved
loop-face-preserved c =
    open_more c.args.self.now c.loop-face.open c.in_ok-open-2.open c.in-Some.others.now c.loop-face.face-index c.face-item.result c.loop-face-test.true c.face-item.is c.loop-face.invariant c.in_ok-open-2.ensures

pub returns-in_default : goal.returns-in_default
returns-in_default c =
    let Covers : Bool → Type 0 = λ r. IsTrue r ↔ CoversMeet c.args.self.now c.in_ok-open.open c.in_ok-open.open in
    let Holds : Bool → Type 0 = λ r. IsTrue r ↔ HoldsUnder c.args.given.now c.args.self.now in
    let none = rw c.in_default.is at c.split_last.ensures.cases in
    IfOk-weaker c.covers_meet.result Covers Holds
    (λ r. holds_under_none c.args.self.now c.in_ok-open.open c.args.given.now r none c.in_ok-open.ensures)
    c.covers_meet.ensures

pub returns-then-is_nowhere : goal.returns-then-is_nowhere
returns-then-is_nowhere c =
    holds_early c.args.self.now c.loop-face.open c.in-Some.last.now c.args.given.now c.in-Some.others.now c.loop-face.face-index c.in-Some.ensures.cases.0 c.loop-face.invariant
    (c.is_nowhere.ensures.0 c.if-is_nowhere.true)

pub returns : goal.returns
returns c =
    let Covers : Bool → Type 0 = λ r. IsTrue r ↔ CoversMeet c.args.self.now c.loop-face.open c.in-Some.last.now in
    let Holds : Bool → Type 0 = λ r. IsTrue r ↔ HoldsUnder c.args.given.now c.args.self.now in
    let met = rw (take_all c.loop-face.face-index c.in-Some.others.now c.loop-face-test.false) at c.loop-face.invariant in
    IfOk-weaker c.covers_meet-2.result Covers Holds
    (λ r. holds_at_last c.args.self.now c.loop-face.open c.in-Some.last.now c.args.given.now c.in-Some.others.now r c.in-Some.ensures.cases.0 met)
    c.covers_meet-2.ensures
