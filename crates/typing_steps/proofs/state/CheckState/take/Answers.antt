use Rattle.std.proofs.Common.{◌≡◌, ◌-◌, suc, map, refl, subst, ◌∙◌, arith}
use Rattle.trees.specs.Judgements.{WithVar}
use Rattle.trees.specs.Language.{Ty}
use Rattle.direct.specs.Known.{Variable}
use Rattle.typed_nodes.proofs.GrowthLaws.{type_at_later}
use Rattle.typed_contexts.proofs.GrowthLaws.{further}
use Rattle.typing_tasks.specs.Outcomes.{binder_typed, typed}
use Rattle.typing_tasks.specs.States.{place, with_found, under as entered}
use Rattle.typing_steps.specs.Steps.{Takes}
use Rattle.typing_steps.proofs.TakingLaws.{not_taken, take_none, take_last, take_more}
use Rattle.typing_steps.proofs.state.CheckState.take.Goals as goal

pub take_node-ty-requires : goal.take_node-ty-requires
take_node-ty-requires c =
    let (S, M, is, does) = c.requires in
    let (A, W, js, found, at, made) = does in
    (c.args.book.now, S, Ty (place S) A, js, is, found)

pub returns-then-count-eq0-clause-steps : goal.returns-then-count-eq0-clause-steps
returns-then-count-eq0-clause-steps c = λ S M is (A, W, js, found, at, made).
    let (node, left) = c.take_node-ty.ensures c.args.book.now S (Ty (place S) A) js is found in
    let (moved, planned) = c.in_ok-plan.ensures in
    take_none c.args.book.now c.take_node-ty.new.self c.args.tasks.now c.plan.new.self _ c.args.count c.args.binders c.args.code c.args.ty S M A W js c.if-count-eq0.true left moved planned at made

pub take_variable-requires : goal.take_variable-requires
take_variable-requires c =
    let (S, M, is, does) = c.requires in
    let (A, W, js, found, at, made) = does in
    (S, A, W, js, is, found, at)

pub returns-in_default-clause-steps : goal.returns-in_default-clause-steps
returns-in_default-clause-steps c = λ S M is (A, W, js, found, at, made).
    let takes = subst (λ o. Takes c.take_variable.new.book c.take_variable.new.self o A W S) c.in_default.is (c.in_ok-rest.ensures.takes S A W js is found at) in
    let more : c.args.count ≡ suc (c.args.count - 1) = omega (arith, c.if-count-eq0.false) in
    made ∙ not_taken (c.args.count - 1) c.args.count A W (map binder_typed c.args.binders.now) (typed c.args.code.now) (with_found js S) more takes

pub returns-then-count-eq1-clause-steps : goal.returns-then-count-eq1-clause-steps
returns-then-count-eq1-clause-steps c = λ S M is (A, W, js, found, at, made).
    let (V, takes, left, under) = subst (λ o. Takes c.take_variable.new.book c.take_variable.new.self o A W S) c.in-Some.is (c.in_ok-rest.ensures.takes S A W js is found at) in
    let (moved, planned) = c.in_ok-plan-2.ensures in
    take_last c.take_variable.new.book c.take_variable.new.self c.args.tasks.now c.plan-then-count-eq1.new.self _ c.args.count c.args.binders c.args.code c.args.ty S M A W js
    c.in-Some.rest V c.if-count-eq1.true takes left under moved planned found made

pub find_lifted-requires : goal.find_lifted-requires
find_lifted-requires c =
    let (S, M, is, does) = c.requires in
    let (A, W, js, found, at, made) = does in
    let (V, takes, left, under) = subst (λ o. Takes c.take_variable.new.book c.take_variable.new.self o A W S) c.in-Some.is (c.in_ok-rest.ensures.takes S A W js is found at) in
    (entered (Variable A) S, S.known, A, A, js, under, refl, found)

pub returns-in_err-find_lifted-clause-extends : goal.returns-in_err-find_lifted-clause-extends
returns-in_err-find_lifted-clause-extends c = further c.in_ok-rest.ensures.extends c.find_lifted.ensures.extends

pub returns-in_err-plan-3-clause-extends : goal.returns-in_err-plan-3-clause-extends
returns-in_err-plan-3-clause-extends c = further c.in_ok-rest.ensures.extends c.in_ok-find_lifted.ensures.extends

pub returns-clause-extends : goal.returns-clause-extends
returns-clause-extends c = further c.in_ok-rest.ensures.extends c.in_ok-find_lifted.ensures.extends

pub returns-clause-steps : goal.returns-clause-steps
returns-clause-steps c = λ S M is (A, W, js, found, at, made).
    let (V, takes, left, under) = subst (λ o. Takes c.take_variable.new.book c.take_variable.new.self o A W S) c.in-Some.is (c.in_ok-rest.ensures.takes S A W js is found at) in
    let finds = c.in_ok-find_lifted.ensures.finds (entered (Variable A) S) S.known A A js under refl found in
    let more : c.args.count ≡ suc (c.args.count - 1) = omega (arith, c.if-count-eq0.false) in
    let (moved, planned) = c.in_ok-plan-3.ensures in
    take_more c.find_lifted.new.book c.find_lifted.new.self c.args.tasks.now c.plan-2.new.self _ c.args.count c.args.binders c.args.code c.args.ty S M A W js
    c.in-Some.rest V more takes (type_at_later _ _ c.in-Some.rest (WithVar (place S) A) V c.in_ok-find_lifted.ensures.extends left) finds moved planned found made
