use Rattle.std.proofs.Common.{◌≡◌, ◌-◌, suc, refl, ap, arith}
use Rattle.trees.specs.Trees.{shift_by}
use Rattle.trees.specs.Language.{Sb}
use Rattle.typed_nodes.proofs.GrowthLaws.{says_later}
use Rattle.typed_contexts.specs.Contexts.{depth_of, at_depth}
use Rattle.typed_contexts.proofs.LevelLaws.{says-sb}
use Rattle.typed_contexts.proofs.PlaceLaws.{to_whole, past-one}
use Rattle.typed_contexts.proofs.GrowthLaws.{further}
use Rattle.typed_contexts.proofs.place.Places.jump.Goals as goal

pub jump_target-to-requires : goal.jump_target-to-requires
jump_target-to-requires c = (c.args.book.now, c.requires.1, c.requires.2)

pub weakening-requires : goal.weakening-requires
weakening-requires c = (c.requires.1, c.requires.2, c.jump_target-to.ensures c.args.book.now c.requires.1 c.requires.2)

pub returns-then-to-depth-clause-weakens : goal.returns-then-to-depth-clause-weakens
returns-then-to-depth-clause-weakens c = λ G H place says.
    let to = c.jump_target-to.result in
    let whole : to ≡ depth_of H = omega (arith, c.if-to-depth.true, c.depth.ensures.place c.args.book.now H place) in
    let one : 1 ≡ suc (depth_of H) - to = omega (arith, whole) in
    (omega (arith, whole), says-sb refl (ap shift_by one) refl (to_whole c.args.book.now G H c.args.up (shift_by 1) to whole says))

pub composed-requires : goal.composed-requires
composed-requires c =
    let G = c.requires.0 in
    let H = c.requires.1 in
    let place = c.requires.2 in
    let to = c.jump_target-to.result in
    (G, H, at_depth to H, shift_by 1, shift_by (depth_of H - to), says_later _ _ c.args.up (Sb G (shift_by 1) H) c.in_ok-onward.ensures.extends c.requires.3, c.in_ok-onward.ensures.weakens H place)

pub returns-clause-weakens : goal.returns-clause-weakens
returns-clause-weakens c = λ G H place says.
    let to = c.jump_target-to.result in
    let within = c.jump_target-to.ensures c.args.book.now H place in (
      within,
      says-sb refl (past-one (depth_of H) to within) refl
          (c.in_ok-sub.ensures.typed G H (at_depth to H) (shift_by 1) (shift_by (depth_of H - to)) (says_later _ _ c.args.up (Sb G (shift_by 1) H) c.in_ok-onward.ensures.extends says) (c.in_ok-onward.ensures.weakens H place)),
    )

pub returns-in_err-sub-clause-extends : goal.returns-in_err-sub-clause-extends
returns-in_err-sub-clause-extends c = further c.in_ok-onward.ensures.extends c.composed.ensures.extends

pub returns-clause-extends : goal.returns-clause-extends
returns-clause-extends c = further c.in_ok-onward.ensures.extends c.in_ok-sub.ensures.extends
