use Rattle.translation.specs.Terms.{universe}
use Rattle.typed_contexts.proofs.GrowthLaws.{further}
use Rattle.typing_tasks.specs.States.{place}
use Rattle.typing_steps.proofs.GrowthLaws.{state_later}
use Rattle.typing_steps.proofs.state.CheckState.universe.Goals as goal

pub universe_type-requires : goal.universe_type-requires
universe_type-requires c =
    let (S, s) = c.requires in
    (place S, c.ctx.ensures c.args.book.now S s)

pub type_here-requires : goal.type_here-requires
type_here-requires c =
    let (S, s) = c.requires in
    let typed = c.in_ok-ty.ensures.typed (place S) (c.ctx.ensures c.args.book.now S s) in
    (S, universe, state_later c.in_ok-ty.ensures.extends c.args.self.now S s, typed)

pub returns-in_err-type_here-clause-extends : goal.returns-in_err-type_here-clause-extends
returns-in_err-type_here-clause-extends c = further c.in_ok-ty.ensures.extends c.in_err-type_here.ensures.extends

pub returns-clause-extends : goal.returns-clause-extends
returns-clause-extends c = further c.in_ok-ty.ensures.extends c.in_ok-type_here.ensures.extends

pub returns-clause-here : goal.returns-clause-here
returns-clause-here c = λ S s.
    let typed = c.in_ok-ty.ensures.typed (place S) (c.ctx.ensures c.args.book.now S s) in
    c.in_ok-type_here.ensures.here S universe (state_later c.in_ok-ty.ensures.extends c.args.self.now S s) typed
