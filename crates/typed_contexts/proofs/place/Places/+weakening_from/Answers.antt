use Rattle.std.proofs.Common.{◌-◌, arith}
use Rattle.trees.specs.Trees.{shift_by}
use Rattle.trees.specs.Language.{Sb}
use Rattle.typed_nodes.proofs.GrowthLaws.{says_later}
use Rattle.typed_contexts.specs.Contexts.{at_depth}
use Rattle.typed_contexts.proofs.PlaceLaws.{weakens-on}
use Rattle.typed_contexts.proofs.GrowthLaws.{further}
use Rattle.typed_contexts.proofs.place.Places.+weakening_from.Goals as goal

pub returns-clause-weakens : goal.returns-clause-weakens
returns-clause-weakens t c = λ H place.
    let b = c.args.book.now in
    let from = c.args.from in
    let to = c.args.to in
    let step = c.step-step.result in
    let first = says_later _ _ step.sub (Sb (at_depth from H) (shift_by (from - step.to)) (at_depth step.to H)) c.in_ok-rest.ensures.extends (c.step-step.ensures.weakens b H place) in
    weakens-on b c.composed.new.book H c.in_ok-composed.field-0 from step.to to c.step-step.ensures.within (omega (arith, c.step-step.ensures.further))
    (c.in_ok-composed.ensures.typed (at_depth from H) (at_depth step.to H) (at_depth to H) (shift_by (from - step.to)) (shift_by (step.to - to)) first (c.in_ok-rest.ensures.weakens H place))

pub composed-requires : goal.composed-requires
composed-requires t c =
    let b = c.args.book.now in
    let from = c.args.from in
    let to = c.args.to in
    let H = c.requires.place.0 in
    let place = c.requires.place.1 in
    let step = c.step-step.result in
    let first = says_later _ _ step.sub (Sb (at_depth from H) (shift_by (from - step.to)) (at_depth step.to H)) c.in_ok-rest.ensures.extends (c.step-step.ensures.weakens b H place) in
    (at_depth from H, at_depth step.to H, at_depth to H, shift_by (from - step.to), shift_by (step.to - to), first, c.in_ok-rest.ensures.weakens H place)

pub returns-in_err-composed-clause-extends : goal.returns-in_err-composed-clause-extends
returns-in_err-composed-clause-extends t c = further c.in_ok-rest.ensures.extends c.composed.ensures.extends

pub returns-clause-extends : goal.returns-clause-extends
returns-clause-extends t c = further c.in_ok-rest.ensures.extends c.in_ok-composed.ensures.extends
