use Rattle.std.proofs.Common.{◌≡◌, ◌-◌, ◌∷◌, suc, refl, sym, ap, subst, ◌∙◌, arith}
use Rattle.translation.specs.Terms.{lifted}
use Rattle.direct.specs.Known.{Variable}
use Rattle.typed_contexts.proofs.GrowthLaws.{further}
use Rattle.typing_tasks.specs.Outcomes.{formed}
use Rattle.typing_tasks.specs.States.{place, finding, under as entered}
use Rattle.typing_steps.specs.Steps.{IsState}
use Rattle.typing_tasks.specs.Tasks.{sort_of}
use Rattle.typing_steps.proofs.BindingLaws.{over_none, over_last, over_more}
use Rattle.typing_steps.proofs.state.CheckState.over.Goals as goal

pub take_node-ty-requires : goal.take_node-ty-requires
take_node-ty-requires c =
    let (S, M, is, does) = c.requires in
    let (A, js, found, made) = does in
    (c.args.book.now, S, formed (sort_of c.args.inner) (place S) A, js, is, found)

pub returns-then-count-eq0-clause-steps : goal.returns-then-count-eq0-clause-steps
returns-then-count-eq0-clause-steps c = λ S M is (A, js, found, made).
    let (ty, left) = c.take_node-ty.ensures c.args.book.now S (formed (sort_of c.args.inner) (place S) A) js is found in
    let (moved, planned) = c.in_ok-plan.ensures in
    over_none c.args.book.now c.take_node-ty.new.self c.args.tasks.now c.plan.new.self _ c.args.count c.args.binders c.args.inner S M A js c.if-count-eq0.true left moved planned made

pub enter_found-requires : goal.enter_found-requires
enter_found-requires c =
    let (S, M, is, does) = c.requires in
    let (A, js, found, made) = does in
    (S, A, js, is, found ∙ ap (λ s. formed s (place S) A ∷ js) (sym c.sort.ensures))

pub returns-then-count-eq1-clause-steps : goal.returns-then-count-eq1-clause-steps
returns-then-count-eq1-clause-steps c = λ S M is (A, js, found, made).
    let under = c.in_ok-enter_found.ensures.enters S A js is (found ∙ ap (λ s. formed s (place S) A ∷ js) (sym c.sort.ensures)) in
    let (moved, planned) = c.in_ok-plan-2.ensures in
    over_last c.enter_found.new.book c.enter_found.new.self c.args.tasks.now c.plan-then-count-eq1.new.self _ c.args.count c.args.binders c.args.inner S M A js
    c.closing.result c.if-count-eq1.true c.closing.ensures under moved planned found made

pub find_lifted-requires : goal.find_lifted-requires
find_lifted-requires c =
    let (S, M, is, does) = c.requires in
    let (A, js, found, made) = does in
    let under = c.in_ok-enter_found.ensures.enters S A js is (found ∙ ap (λ s. formed s (place S) A ∷ js) (sym c.sort.ensures)) in
    (entered (Variable A) S, S.known, A, A, js, under, refl, found ∙ ap (λ s. formed s (place S) A ∷ js) (sym c.sort-2.ensures))

pub returns-in_err-find_lifted-clause-extends : goal.returns-in_err-find_lifted-clause-extends
returns-in_err-find_lifted-clause-extends c = further c.in_ok-enter_found.ensures.extends c.find_lifted.ensures.extends

pub returns-in_err-plan-3-clause-extends : goal.returns-in_err-plan-3-clause-extends
returns-in_err-plan-3-clause-extends c = further c.in_ok-enter_found.ensures.extends c.in_ok-find_lifted.ensures.extends

pub returns-clause-extends : goal.returns-clause-extends
returns-clause-extends c = further c.in_ok-enter_found.ensures.extends c.in_ok-find_lifted.ensures.extends

pub returns-clause-steps : goal.returns-clause-steps
returns-clause-steps c = λ S M is (A, js, found, made).
    let under = c.in_ok-enter_found.ensures.enters S A js is (found ∙ ap (λ s. formed s (place S) A ∷ js) (sym c.sort.ensures)) in
    let lifts = c.in_ok-find_lifted.ensures.finds (entered (Variable A) S) S.known A A js under refl (found ∙ ap (λ s. formed s (place S) A ∷ js) (sym c.sort-2.ensures)) in
    let finds = subst (λ s. IsState c.find_lifted.new.book c.find_lifted.new.self (finding (formed s (place (entered (Variable A) S)) (lifted A)) (entered (Variable A) S))) c.sort-2.ensures lifts in
    let more : c.args.count ≡ suc (c.args.count - 1) = omega (arith, c.if-count-eq0.false) in
    let (moved, planned) = c.in_ok-plan-3.ensures in
    over_more c.find_lifted.new.book c.find_lifted.new.self c.args.tasks.now c.plan-2.new.self _ c.args.count c.args.binders c.args.inner S M A js
    c.closing.result more c.closing.ensures finds moved planned found made
