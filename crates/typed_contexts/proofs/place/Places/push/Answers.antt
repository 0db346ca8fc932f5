use Rattle.std.proofs.Common.{refl}
use Rattle.typed_contexts.specs.Contexts.{outside}
use Rattle.typed_contexts.proofs.GrowthLaws.{place_later}
use Rattle.typed_contexts.proofs.PlaceLaws.{next-level, place-next}
use Rattle.typed_contexts.proofs.place.Places.push.Goals as goal

pub jump-requires : goal.jump-requires
jump-requires c = (c.requires.0, outside 1 c.requires.0, c.requires.1.place, c.requires.1.past_is)

pub returns-clause-place : goal.returns-clause-place
returns-clause-place c = λ G next.
    let jump = c.in_ok-jump.jump in
    let is = c.in_ok-jump.ensures.weakens G (outside 1 G) next.place next.past_is in
    place-next c.jump.new.book c.args.self.now (record { empty = c.args.self.now.empty; levels = c.push.new.self })
    (record { ctx = c.args.ctx; entry = c.args.entry; up = c.args.up; jump = jump }) G refl c.in_ok-push.ensures.items
    (place_later _ _ _ _ c.in_ok-jump.ensures.extends next.place)
    (next-level c.in_ok-jump.ensures.extends c.args.self.now c.args.ctx c.args.up c.args.entry jump G next is.0 is.1)
