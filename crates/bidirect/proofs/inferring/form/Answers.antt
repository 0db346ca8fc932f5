use Rattle.std.proofs.Common.{◌<◌, ◌+◌, [], ◌∷◌, ap, sym, ◌∙◌, arith}
use Rattle.trees.specs.Language.{Ty}
use Rattle.translation.specs.Terms.{universe}
use Rattle.codes.proofs.Logs.{append_empty}
use Rattle.typing_tasks.specs.declared.tasks.Task.TheVariants as task
use Rattle.typing_tasks.specs.declared.tasks.Comparing.TheVariants as comparing
use Rattle.typing_tasks.specs.Weights.{weight_of}
use Rattle.typing_tasks.specs.States.{place, finding}
use Rattle.typing_tasks.specs.Outcomes.{typed, form}
use Rattle.typing_steps.proofs.GrowthLaws.{state_later}
use Rattle.typing_steps.proofs.Planning.{leaves, run_one}
use Rattle.bidirect.proofs.FormLaws.{type_at, universe_formed}
use Rattle.bidirect.proofs.inferring.form.Goals as goal

pub universe_type-requires : goal.universe_type-requires
universe_type-requires c =
    let (S, M, s, does) = c.requires in
    (place S, c.ctx.ensures c.args.book.now S s)

pub returns-then-is_universe-clause-steps : goal.returns-then-is_universe-clause-steps
returns-then-is_universe-clause-steps c = λ S M s e.
    let says = c.in_ok-node-in-Large.ensures.typed (place S) (c.ctx.ensures c.args.book.now S s) in
    let state = c.in_ok-found-in-Large.ensures c.universe_type.new.book S (Ty (place S) universe) (state_later c.in_ok-node-in-Large.ensures.extends c.args.state.now S s) says in
    let less : 0 < 4 + weight_of c.args.code.now = omega arith in (
      finding (Ty (place S) universe) S,
      [],
      state,
      sym (append_empty c.args.tasks.now.items.items),
      less,
      e ∙ ap (λ z. form z (typed c.args.code.now) S) c.in-Large.is ∙ universe_formed c.args.code.now S (sym c.if-is_universe.ensures),
    )

pub returns-in_ok-plan-in-Large-clause-steps : goal.returns-in_ok-plan-in-Large-clause-steps
returns-in_ok-plan-in-Large-clause-steps c = λ S M s e.
    let b = c.args.book.now in
    let ts = task.Infer c.args.code ∷ task.Comparing comparing.IsSmall ∷ [] in
    let less : weight_of c.args.code.now + (1 + 0) < 4 + weight_of c.args.code.now = omega arith in
    leaves b c.args.state.now c.args.tasks.now c.plan.new.self (task.Form c.args.code c.args.sort) c.in_ok-plan-in-Large.field-0 M S ts c.in_ok-plan-in-Large.ensures.0 s c.in_ok-plan-in-Large.ensures.1 less
    (type_at b c.args.code S M (sym c.if-is_former.ensures) (sym c.if-is_universe.ensures) (e ∙ ap (λ z. form z (typed c.args.code.now) S) c.in-Large.is))

pub returns-in_ok-plan-in-Small-clause-steps : goal.returns-in_ok-plan-in-Small-clause-steps
returns-in_ok-plan-in-Small-clause-steps c = λ S M s e.
    let b = c.universe.new.book in
    let ty = c.in_ok-ty-in-Small.ty in
    let state = state_later c.in_ok-ty-in-Small.ensures.extends c.args.state.now S s in
    let at = c.in_ok-ty-in-Small.ensures.here S s in
    let ts = task.Check c.args.code ty ∷ [] in
    let less : 3 + weight_of c.args.code.now + 0 < 4 + weight_of c.args.code.now = omega arith in
    leaves b c.args.state.now c.args.tasks.now c.plan-in-Small.new.self (task.Form c.args.code c.args.sort) c.in_ok-plan-in-Small.field-0 M S ts c.in_ok-plan-in-Small.ensures.0 state c.in_ok-plan-in-Small.ensures.1 less
    (run_one b S M (task.Check c.args.code ty) (universe, at, e ∙ ap (λ z. form z (typed c.args.code.now) S) c.in-Small.is))
