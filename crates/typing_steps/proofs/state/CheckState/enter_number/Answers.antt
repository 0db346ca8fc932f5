use Rattle.translation.specs.Terms.{nat}
use Rattle.direct.specs.Known.{Variable}
use Rattle.typed_contexts.proofs.GrowthLaws.{further}
use Rattle.typing_tasks.specs.States.{place, under}
use Rattle.typing_steps.proofs.GrowthLaws.{state_later}
use Rattle.typing_steps.proofs.state.CheckState.enter_number.Goals as goal

pub numbers_type-requires : goal.numbers_type-requires
numbers_type-requires c =
    let (S, M, is, made) = c.requires in
    (place S, c.ctx.ensures c.args.book.now S is)

pub enter-requires : goal.enter-requires
enter-requires c =
    let (S, M, is, made) = c.requires in
    (S, nat, state_later c.in_ok-ty.ensures.extends c.args.self.now S is, (c.in_ok-ty.ensures.typed (place S) (c.ctx.ensures c.args.book.now S is)).1)

pub returns-clause-extends : goal.returns-clause-extends
returns-clause-extends c = further c.in_ok-ty.ensures.extends c.in_ok-enter.ensures.extends

pub returns-in_err-enter-clause-extends : goal.returns-in_err-enter-clause-extends
returns-in_err-enter-clause-extends c = further c.in_ok-ty.ensures.extends c.enter.ensures.extends

pub returns-clause-done : goal.returns-clause-done
returns-clause-done c = λ S M is made.
    let later = state_later c.in_ok-ty.ensures.extends c.args.self.now S is in
    let number = (c.in_ok-ty.ensures.typed (place S) (c.ctx.ensures c.args.book.now S is)).1 in
    (under (Variable nat) S, c.in_ok-enter.ensures.under S nat later number, made)
