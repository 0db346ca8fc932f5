use Rattle.trees.specs.Trees.{id}
use Rattle.trees.specs.Judgements.{WithName}
use Rattle.typed_contexts.proofs.GrowthLaws.{further, place_later}
use Rattle.typed_contexts.proofs.PlaceLaws.{next-name}
use Rattle.typed_contexts.proofs.place.Places.enter_name.Goals as goal

pub here-requires : goal.here-requires
here-requires c = c.requires

pub past_name-requires : goal.past_name-requires
past_name-requires c = let H = c.requires.0 in (H, H, id, c.in_ok-here.ensures.here H c.requires.1)

pub with_name-requires : goal.with_name-requires
with_name-requires c =
    let H = c.requires.0 in
    (H, c.ctx.ensures c.past_name.new.book H (place_later _ _ _ _ (further c.in_ok-here.ensures.extends c.in_ok-up.ensures.extends) c.requires.1))

pub returns-in_err-up-clause-extends : goal.returns-in_err-up-clause-extends
returns-in_err-up-clause-extends c = further c.in_ok-here.ensures.extends c.past_name.ensures.extends

pub returns-in_err-ctx-clause-extends : goal.returns-in_err-ctx-clause-extends
returns-in_err-ctx-clause-extends c = further c.in_ok-here.ensures.extends (further c.in_ok-up.ensures.extends c.with_name.ensures.extends)

pub push-requires : goal.push-requires
push-requires c =
    let H = c.requires.0 in
    let place = c.requires.1 in
    let next = let past = c.in_ok-up.ensures.typed H H id (c.in_ok-here.ensures.here H place) in
    let ctx = c.in_ok-ctx.ensures.typed H (c.ctx.ensures c.past_name.new.book H (place_later _ _ _ _ (further c.in_ok-here.ensures.extends c.in_ok-up.ensures.extends) place)) in
    next-name c.in_ok-here.ensures.extends c.in_ok-up.ensures.extends c.in_ok-ctx.ensures.extends c.args.self.now H c.in_ok-up.up c.in_ok-ctx.ctx place past ctx in
    (WithName H, next)

pub returns-in_err-push-clause-extends : goal.returns-in_err-push-clause-extends
returns-in_err-push-clause-extends c = further c.in_ok-here.ensures.extends (further c.in_ok-up.ensures.extends (further c.in_ok-ctx.ensures.extends c.push.ensures.extends))

pub returns-clause-extends : goal.returns-clause-extends
returns-clause-extends c = further c.in_ok-here.ensures.extends (further c.in_ok-up.ensures.extends (further c.in_ok-ctx.ensures.extends c.in_ok-push.ensures.extends))

pub returns-clause-place : goal.returns-clause-place
returns-clause-place c = λ H place.
    let next = let past = c.in_ok-up.ensures.typed H H id (c.in_ok-here.ensures.here H place) in
    let ctx = c.in_ok-ctx.ensures.typed H (c.ctx.ensures c.past_name.new.book H (place_later _ _ _ _ (further c.in_ok-here.ensures.extends c.in_ok-up.ensures.extends) place)) in
    next-name c.in_ok-here.ensures.extends c.in_ok-up.ensures.extends c.in_ok-ctx.ensures.extends c.args.self.now H c.in_ok-up.up c.in_ok-ctx.ctx place past ctx in
    c.in_ok-push.ensures.place (WithName H) next
