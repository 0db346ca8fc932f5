use Rattle.std.proofs.Common.{refl}
use Rattle.translation.specs.Terms.{nat, zero}
use Rattle.typed_nodes.specs.Typed.{IsTyped}
use Rattle.typed_contexts.proofs.GrowthLaws.{further}
use Rattle.typing_tasks.specs.States.{place, inferring}
use Rattle.typing_steps.proofs.GrowthLaws.{state_later}
use Rattle.typing_steps.proofs.state.CheckState.zero_inferred.Goals as goal

pub zero-requires : goal.zero-requires
zero-requires c =
    let (S, s) = c.requires in
    (place S, c.ctx.ensures c.args.book.now S s)

pub numbers-requires : goal.numbers-requires
numbers-requires c =
    let (S, s) = c.requires in
    (S, state_later c.in_ok-term.ensures.extends c.args.self.now S s)

pub returns-in_err-ty-clause-extends : goal.returns-in_err-ty-clause-extends
returns-in_err-ty-clause-extends c = further c.in_ok-term.ensures.extends c.in_err-ty.ensures.extends

pub returns-in_err-inferred-clause-extends : goal.returns-in_err-inferred-clause-extends
returns-in_err-inferred-clause-extends c = further c.in_ok-term.ensures.extends c.in_ok-ty.ensures.extends

pub returns-clause-extends : goal.returns-clause-extends
returns-clause-extends c = further c.in_ok-term.ensures.extends c.in_ok-ty.ensures.extends

pub returns-clause-infers : goal.returns-clause-infers
returns-clause-infers c = λ S s.
    let says = c.in_ok-term.ensures.typed (place S) (c.ctx.ensures c.args.book.now S s) in
    let before = state_later c.in_ok-term.ensures.extends c.args.self.now S s in
    let state = state_later c.in_ok-ty.ensures.extends _ _ before in
    let at = c.in_ok-ty.ensures.here S before in
    let typed : IsTyped c.numbers.new.book (record { term = c.in_ok-term.term; ty = c.in_ok-ty.ty }) (place S) zero nat =
    record { term_is = c.in_ok-ty.ensures.extends.conclusions c.in_ok-term.term.0 _ says; type_at = at } in
    (inferring zero nat S, c.in_ok-inferred.ensures c.numbers.new.book S zero nat state typed, refl)
