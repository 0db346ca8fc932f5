use Rattle.typed_contexts.proofs.GrowthLaws.{further}
use Rattle.typing_tasks.specs.Outcomes.{formed}
use Rattle.typing_tasks.specs.States.{place}
use Rattle.typing_steps.proofs.GrowthLaws.{state_later}
use Rattle.typing_steps.proofs.state.CheckState.enter_found.Goals as goal

pub last_node-requires : goal.last_node-requires
last_node-requires c =
    let (S, A, js, is, found) = c.requires in
    (c.args.book.now, S, formed c.args.sort (place S) A, js, is, found)

pub as_type-requires : goal.as_type-requires
as_type-requires c =
    let (S, A, js, is, found) = c.requires in
    (place S, A, c.last_node.ensures c.args.book.now S (formed c.args.sort (place S) A) js is found)

pub enter-requires : goal.enter-requires
enter-requires c =
    let (S, A, js, is, found) = c.requires in (
      S,
      A,
      state_later c.in_ok-ty.ensures.extends c.args.self.now S is,
      c.in_ok-ty.ensures.typed (place S) A (c.last_node.ensures c.args.book.now S (formed c.args.sort (place S) A) js is found),
    )

pub returns-in_err-enter-clause-extends : goal.returns-in_err-enter-clause-extends
returns-in_err-enter-clause-extends c = further c.in_ok-ty.ensures.extends c.enter.ensures.extends

pub returns-clause-extends : goal.returns-clause-extends
returns-clause-extends c = further c.in_ok-ty.ensures.extends c.in_ok-enter.ensures.extends

pub returns-clause-enters : goal.returns-clause-enters
returns-clause-enters c = λ S A js is found.
    c.in_ok-enter.ensures.under S A (state_later c.in_ok-ty.ensures.extends c.args.self.now S is)
    (c.in_ok-ty.ensures.typed (place S) A (c.last_node.ensures c.args.book.now S (formed c.args.sort (place S) A) js is found))
