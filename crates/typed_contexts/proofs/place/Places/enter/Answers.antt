use Rattle.trees.specs.Trees.{id}
use Rattle.trees.specs.Judgements.{WithVar}
use Rattle.trees.specs.Language.{Ty}
use Rattle.typed_nodes.proofs.GrowthLaws.{says_later}
use Rattle.typed_contexts.proofs.GrowthLaws.{further}
use Rattle.typed_contexts.proofs.PlaceLaws.{next-variable}
use Rattle.typed_contexts.proofs.place.Places.enter.Goals as goal

pub here-requires : goal.here-requires
here-requires c = (c.requires.0, c.requires.2)

pub past_variable-requires : goal.past_variable-requires
past_variable-requires c =
    let H = c.requires.0 in
    let A = c.requires.1 in
    (H, H, id, A, c.in_ok-here.ensures.here H c.requires.2, says_later _ _ c.args.ty (Ty H A) c.in_ok-here.ensures.extends c.requires.3)

pub with_variable-requires : goal.with_variable-requires
with_variable-requires c =
    let H = c.requires.0 in
    let A = c.requires.1 in
    (H, A, says_later _ _ c.args.ty (Ty H A) (further c.in_ok-here.ensures.extends c.in_ok-up.ensures.extends) c.requires.3)

pub returns-in_err-up-clause-extends : goal.returns-in_err-up-clause-extends
returns-in_err-up-clause-extends c = further c.in_ok-here.ensures.extends c.past_variable.ensures.extends

pub returns-in_err-ctx-clause-extends : goal.returns-in_err-ctx-clause-extends
returns-in_err-ctx-clause-extends c = further c.in_ok-here.ensures.extends (further c.in_ok-up.ensures.extends c.with_variable.ensures.extends)

pub push-requires : goal.push-requires
push-requires c =
    let H = c.requires.0 in
    let A = c.requires.1 in
    let place = c.requires.2 in
    let type_is = c.requires.3 in
    let next = let ext = c.in_ok-here.ensures.extends in
    let said = says_later _ _ c.args.ty (Ty H A) ext type_is in
    let past = c.in_ok-up.ensures.typed H H id A (c.in_ok-here.ensures.here H place) said in
    let ctx = c.in_ok-ctx.ensures.typed H A (says_later _ _ c.args.ty (Ty H A) c.in_ok-up.ensures.extends said) in
    next-variable ext c.in_ok-up.ensures.extends c.in_ok-ctx.ensures.extends c.args.self.now H A c.args.ty c.in_ok-up.up c.in_ok-ctx.ctx place type_is past ctx in
    (WithVar H A, next)

pub returns-in_err-push-clause-extends : goal.returns-in_err-push-clause-extends
returns-in_err-push-clause-extends c = further c.in_ok-here.ensures.extends (further c.in_ok-up.ensures.extends (further c.in_ok-ctx.ensures.extends c.push.ensures.extends))

pub returns-clause-extends : goal.returns-clause-extends
returns-clause-extends c = further c.in_ok-here.ensures.extends (further c.in_ok-up.ensures.extends (further c.in_ok-ctx.ensures.extends c.in_ok-push.ensures.extends))

pub returns-clause-place : goal.returns-clause-place
returns-clause-place c = λ H A place type_is.
    let next = let ext = c.in_ok-here.ensures.extends in
    let said = says_later _ _ c.args.ty (Ty H A) ext type_is in
    let past = c.in_ok-up.ensures.typed H H id A (c.in_ok-here.ensures.here H place) said in
    let ctx = c.in_ok-ctx.ensures.typed H A (says_later _ _ c.args.ty (Ty H A) c.in_ok-up.ensures.extends said) in
    next-variable ext c.in_ok-up.ensures.extends c.in_ok-ctx.ensures.extends c.args.self.now H A c.args.ty c.in_ok-up.up c.in_ok-ctx.ctx place type_is past ctx in
    c.in_ok-push.ensures.place (WithVar H A) next
