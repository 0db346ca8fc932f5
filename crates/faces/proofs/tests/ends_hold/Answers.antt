-- At the point where all names are free neither end is there.
use Rattle.std.proofs.Common.{◌≡◌, ◌↔◌, Bool, false, [], ap, ◌∙◌, IsTrue}
use Rattle.std.proofs.lemmas.Bool.{false_from_ne_true, both_ways, or_from}
use Rattle.std.proofs.lemmas.List.Elements.{All-nil}
use Rattle.std.proofs.lemmas.Result.{IfOk-weaker}
use Rattle.points.specs.Values.{Value}
use Rattle.faces.specs.Faces.{face_truth, HoldsUnder}
use Rattle.faces.proofs.tests.ends_hold.Goals as goal

pub returns : goal.returns
returns c =
    let Says : Bool → Type 0 = λ holds. IsTrue holds ↔ HoldsUnder [] c.in_ok-ends.ends in
    let low = c.in_ok-eq.ensures [] ∙ ap (λ (v : Value). v.fails) (c.in_ok-form.ensures []) in
    let high = c.in_ok-eq-2.ensures [] ∙ ap (λ (v : Value). v.holds) (c.in_ok-form.ensures []) in
    let nowhere : face_truth c.in_ok-ends.ends [] ≡ false = c.in_ok-ends.ensures [] ∙ or_from (face_truth c.in_ok-eq.field-0 []) (face_truth c.in_ok-eq-2.field-0 []) low high in
    IfOk-weaker c.holds_under.result Says (λ holds. holds ≡ false)
    (λ holds says.
    false_from_ne_true holds
    (λ h. both_ways (face_truth c.in_ok-ends.ends []) nowhere (says.0 h [] (All-nil (λ face. IsTrue (face_truth face []))))))
    c.holds_under.ensures
