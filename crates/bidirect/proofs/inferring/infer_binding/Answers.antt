use Rattle.std.proofs.Common.{◌≡◌, ◌<◌, ◌+◌, [], ◌∷◌, map, refl, sym, ap, ◌∙◌, subst, arith}
use Rattle.translation.specs.Terms.{universe}
use Rattle.typing_tasks.specs.declared.tasks.Task.TheVariants as task
use Rattle.typing_tasks.specs.declared.tasks.Defining.TheVariants as defining
use Rattle.typing_tasks.specs.declared.tasks.Binding.TheVariants as binding
use Rattle.typing_tasks.specs.declared.tasks.Comparing.TheVariants as comparing
use Rattle.typing_tasks.specs.declared.tasks.Inner.TheVariants as inner
use Rattle.typing_tasks.specs.declared.tasks.Former.TheVariants as former
use Rattle.typing_tasks.specs.declared.tasks.Sort.TheVariants.{Small}
use Rattle.typing_tasks.specs.Weights.{weight_of, def_weight, binder_weight, sum}
use Rattle.typing_tasks.specs.Outcomes.{typed, binder_typed, infer, form, let_of, family, function}
use Rattle.typing_tasks.specs.Tasks.{Run}
use Rattle.typing_steps.proofs.Planning.{plans, run_one}
use Rattle.typing_tasks.proofs.TypingRows.{typed_let, typed_pi, typed_sigma, typed_lambda}
use Rattle.bidirect.proofs.WeightRows.{weight_let, weight_pi, weight_sigma, weight_lambda}
use Rattle.bidirect.proofs.BlockLaws.{where_some}
use Rattle.bidirect.proofs.CodeLaws.{let_infers, small_infer}
use Rattle.bidirect.proofs.inferring.infer_binding.Goals as goal

pub returns-in_ok-plan-in-Let : goal.returns-in_ok-plan-in-Let
returns-in_ok-plan-in-Let c =
    let is = c.in-Let.is in
    let xs = c.deref.result in
    let w0 = ap (sum def_weight) c.deref.ensures.value in
    let y = c.deref-in-Let.result in
    let w1 = ap (weight_of) c.deref-in-Let.ensures in
    let reads : typed c.args.code.now ≡ let_of xs.now (typed y.now) =
    ap typed is ∙ typed_let c.in-Let.span c.in-Let.locals c.in-Let.body
    ∙ ap (λ z. let_of z (typed c.in-Let.body.value)) (sym c.deref.ensures.value)
    ∙ ap (λ z. let_of xs.now (typed z)) (sym c.deref-in-Let.ensures) in
    let weighs = ap weight_of is ∙ weight_let c.in-Let.span c.in-Let.locals c.in-Let.body in
    let ts = task.Defining (defining.Block xs) ∷ task.Infer y ∷ task.Defining (defining.End c.len.result) ∷ [] in
    let less : 1 + sum def_weight xs.now + (weight_of y.now + (1 + 0)) < weight_of c.args.code.now = omega (arith, weighs, w0, w1) in
    plans c.args.tasks.now c.plan.new.self c.in_ok-plan-in-Let.field-0 (task.Infer c.args.code) ts c.in_ok-plan-in-Let.ensures.0 c.in_ok-plan-in-Let.ensures.1 less
    (λ b S M e. let_infers b xs y c.len.result S M (c.len.ensures ∙ sym c.deref.ensures.len) (e ∙ ap (λ t. infer t S) reads))

pub returns-in_ok-plan-in-Pi : goal.returns-in_ok-plan-in-Pi
returns-in_ok-plan-in-Pi c =
    let is = c.in-Pi.is in
    let xs = c.deref-in-Pi.result in
    let w0 = ap (sum binder_weight) c.deref-in-Pi.ensures.value in
    let y = c.deref-in-Pi-2.result in
    let w1 = ap (weight_of) c.deref-in-Pi-2.ensures in
    let reads : typed c.args.code.now ≡ family former.Pi (map binder_typed xs.now) (typed y.now) =
    ap typed is ∙ typed_pi c.in-Pi.span c.in-Pi.binders c.in-Pi.body
    ∙ ap (λ z. family former.Pi (map binder_typed z) (typed c.in-Pi.body.value)) (sym c.deref-in-Pi.ensures.value)
    ∙ ap (λ z. family former.Pi (map binder_typed xs.now) (typed z)) (sym c.deref-in-Pi-2.ensures) in
    let weighs = ap weight_of is ∙ weight_pi c.in-Pi.span c.in-Pi.binders c.in-Pi.body in
    let ts = task.Binding (binding.Under xs (inner.Family former.Pi Small y)) ∷ task.Comparing comparing.Small ∷ [] in
    let less : 1 + (sum binder_weight xs.now + (5 + weight_of y.now)) + (1 + 0) < weight_of c.args.code.now = omega (arith, weighs, w0, w1) in
    plans c.args.tasks.now c.plan-in-Pi.new.self c.in_ok-plan-in-Pi.field-0 (task.Infer c.args.code) ts c.in_ok-plan-in-Pi.ensures.0 c.in_ok-plan-in-Pi.ensures.1 less
    (λ b S M e. subst (Run b ts S) (sym (e ∙ ap (λ t. infer t S) reads)) (small_infer b (task.Binding (binding.Under xs (inner.Family former.Pi Small y)) ∷ []) (family former.Pi (map binder_typed xs.now) (typed y.now)) S (λ G W. refl) (λ G A f. sym (where_some _ universe A f)) (run_one b S (form Small (family former.Pi (map binder_typed xs.now) (typed y.now)) S) (task.Binding (binding.Under xs (inner.Family former.Pi Small y))) refl)))

pub returns-in_ok-plan-in-Sigma : goal.returns-in_ok-plan-in-Sigma
returns-in_ok-plan-in-Sigma c =
    let is = c.in-Sigma.is in
    let xs = c.deref-in-Sigma.result in
    let w0 = ap (sum binder_weight) c.deref-in-Sigma.ensures.value in
    let y = c.deref-in-Sigma-2.result in
    let w1 = ap (weight_of) c.deref-in-Sigma-2.ensures in
    let reads : typed c.args.code.now ≡ family former.Sigma (map binder_typed xs.now) (typed y.now) =
    ap typed is ∙ typed_sigma c.in-Sigma.span c.in-Sigma.binders c.in-Sigma.body
    ∙ ap (λ z. family former.Sigma (map binder_typed z) (typed c.in-Sigma.body.value)) (sym c.deref-in-Sigma.ensures.value)
    ∙ ap (λ z. family former.Sigma (map binder_typed xs.now) (typed z)) (sym c.deref-in-Sigma-2.ensures) in
    let weighs = ap weight_of is ∙ weight_sigma c.in-Sigma.span c.in-Sigma.binders c.in-Sigma.body in
    let ts = task.Binding (binding.Under xs (inner.Family former.Sigma Small y)) ∷ task.Comparing comparing.Small ∷ [] in
    let less : 1 + (sum binder_weight xs.now + (5 + weight_of y.now)) + (1 + 0) < weight_of c.args.code.now = omega (arith, weighs, w0, w1) in
    plans c.args.tasks.now c.plan-in-Sigma.new.self c.in_ok-plan-in-Sigma.field-0 (task.Infer c.args.code) ts c.in_ok-plan-in-Sigma.ensures.0 c.in_ok-plan-in-Sigma.ensures.1 less
    (λ b S M e. subst (Run b ts S) (sym (e ∙ ap (λ t. infer t S) reads)) (small_infer b (task.Binding (binding.Under xs (inner.Family former.Sigma Small y)) ∷ []) (family former.Sigma (map binder_typed xs.now) (typed y.now)) S (λ G W. refl) (λ G A f. sym (where_some _ universe A f)) (run_one b S (form Small (family former.Sigma (map binder_typed xs.now) (typed y.now)) S) (task.Binding (binding.Under xs (inner.Family former.Sigma Small y))) refl)))

pub returns-in_ok-plan-in-Lambda : goal.returns-in_ok-plan-in-Lambda
returns-in_ok-plan-in-Lambda c =
    let is = c.in-Lambda.is in
    let xs = c.deref-in-Lambda.result in
    let w0 = ap (sum binder_weight) c.deref-in-Lambda.ensures.value in
    let y = c.deref-in-Lambda-2.result in
    let w1 = ap (weight_of) c.deref-in-Lambda-2.ensures in
    let reads : typed c.args.code.now ≡ function (map binder_typed xs.now) (typed y.now) =
    ap typed is ∙ typed_lambda c.in-Lambda.span c.in-Lambda.binders c.in-Lambda.body
    ∙ ap (λ z. function (map binder_typed z) (typed c.in-Lambda.body.value)) (sym c.deref-in-Lambda.ensures.value)
    ∙ ap (λ z. function (map binder_typed xs.now) (typed z)) (sym c.deref-in-Lambda-2.ensures) in
    let weighs = ap weight_of is ∙ weight_lambda c.in-Lambda.span c.in-Lambda.binders c.in-Lambda.body in
    let ts = task.Binding (binding.Under xs (inner.Function y)) ∷ [] in
    let less : 1 + (sum binder_weight xs.now + (5 + weight_of y.now)) + 0 < weight_of c.args.code.now = omega (arith, weighs, w0, w1) in
    plans c.args.tasks.now c.plan-in-Lambda.new.self c.in_ok-plan-in-Lambda.field-0 (task.Infer c.args.code) ts c.in_ok-plan-in-Lambda.ensures.0 c.in_ok-plan-in-Lambda.ensures.1 less
    (λ b S M e. run_one b S M (task.Binding (binding.Under xs (inner.Function y))) (e ∙ ap (λ t. infer t S) reads))
