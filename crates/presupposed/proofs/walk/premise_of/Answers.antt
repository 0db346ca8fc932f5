use Rattle.std.proofs.Common.{◌≡◌, ◌<◌, length, ap, subst, arith, Some}
use Rattle.std.specs.Prelude.{slice_get, slice_index_or}
use Rattle.literal_types.proofs.StepLaws.{all_at}
use Rattle.recipe_runner.proofs.BuildLaws.{some-is}
use Rattle.book.specs.Shown.{book_nodes}
use Rattle.presupposed.specs.Tasks.{place_of}
use Rattle.presupposed.proofs.FillLaws.{made_parts}
use Rattle.presupposed.proofs.StepLaws.{at_index}
use Rattle.presupposed.proofs.walk.premise_of.Goals as goal

pub step-requires : goal.step-requires
step-requires c =
    let (made, is, lt) = c.requires in
    some-is (book_nodes c.args.book.now c.args.node.0) made is

pub bounds-premises-place : goal.bounds-premises-place
bounds-premises-place c =
    let (made, is, lt) = c.requires in
    let s = c.step.result in
    let same = ap length (made_parts c.args.book.now c.args.node made s.rule s.parts.now s.premises.now is c.step.ensures.made).1 in
    let place = c.place.ensures in
    omega (arith, lt, same, place)

pub returns-clause-premise : goal.returns-clause-premise
returns-clause-premise c = λ made is.
    let (node, there, lt) = c.requires in
    let s = c.step.result in
    let here = made_parts c.args.book.now c.args.node node s.rule s.parts.now s.premises.now there c.step.ensures.made in
    let same = ap length here.1 in
    let place = c.place.ensures in
    let parts = made_parts c.args.book.now c.args.node made s.rule s.parts.now s.premises.now is c.step.ensures.made in
    let at = at_index s.premises.now c.place.result 0 (omega (arith, lt, same, place)) in
    subst (λ ps. slice_get ps (place_of c.args.source) ≡ Some (slice_index_or s.premises.now c.place.result 0)) parts.1
    (subst (λ i. slice_get s.premises.now i ≡ Some (slice_index_or s.premises.now c.place.result 0)) c.place.ensures at)

pub returns-clause-earlier : goal.returns-clause-earlier
returns-clause-earlier c =
    let (node, there, lt) = c.requires in
    let s = c.step.result in
    let here = made_parts c.args.book.now c.args.node node s.rule s.parts.now s.premises.now there c.step.ensures.made in
    let same = ap length here.1 in
    let place = c.place.ensures in
    all_at (λ k. k < c.args.node.0) s.premises.now c.place.result (slice_index_or s.premises.now c.place.result 0) c.step.ensures.earlier (at_index s.premises.now c.place.result 0 (omega (arith, lt, same, place)))
