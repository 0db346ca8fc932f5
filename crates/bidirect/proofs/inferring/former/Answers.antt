use Rattle.std.proofs.Common.{◌≡◌, ◌<◌, ◌+◌, [], ◌∷◌, map, sym, ap, ◌∙◌, subst, arith}
use Rattle.typing_tasks.specs.declared.tasks.Task.TheVariants as task
use Rattle.typing_tasks.specs.declared.tasks.Defining.TheVariants as defining
use Rattle.typing_tasks.specs.declared.tasks.Binding.TheVariants as binding
use Rattle.typing_tasks.specs.declared.tasks.Lining.TheVariants as lining
use Rattle.typing_tasks.specs.declared.tasks.Inner.TheVariants as inner
use Rattle.typing_tasks.specs.declared.tasks.Former.TheVariants as former
use Rattle.typing_tasks.specs.Weights.{weight_of, opened_weight, def_weight, binder_weight, sum}
use Rattle.typing_tasks.specs.Outcomes.{typed, line_typed, binder_typed, form, let_of, family, path_type_of}
use Rattle.typing_tasks.specs.Tasks.{Run}
use Rattle.typing_steps.proofs.Planning.{plans, run_one}
use Rattle.typing_tasks.proofs.TypingRows.{typed_let, typed_pi, typed_sigma, typed_path}
use Rattle.bidirect.proofs.WeightRows.{weight_let, weight_pi, weight_sigma, weight_path}
use Rattle.bidirect.proofs.CodeLaws.{let_forms, path_form}
use Rattle.bidirect.proofs.inferring.former.Goals as goal

pub returns-in_ok-plan-in-Let : goal.returns-in_ok-plan-in-Let
returns-in_ok-plan-in-Let c =
    let is = c.in-Let.is in
    let xs = c.deref.result in
    let w0 = ap (sum def_weight) c.deref.ensures.value in
    let y = c.deref-in-Let.result in
    let w1 = ap (weight_of) c.deref-in-Let.ensures in
    let reads : typed c.args.code.now ≡ let_of xs.now (typed y.now) =
    ap typed is ∙ typed_let c.in-Let.span c.in-Let.locals c.in-Let.body
    ∙ ap (λ z. let_of z (typed c.in-Let.body.value)) (sym c.deref.ensures.value)
    ∙ ap (λ z. let_of xs.now (typed z)) (sym c.deref-in-Let.ensures) in
    let weighs = ap weight_of is ∙ weight_let c.in-Let.span c.in-Let.locals c.in-Let.body in
    let ts = task.Defining (defining.Block xs) ∷ task.Form y c.args.sort ∷ task.Defining (defining.End c.len.result) ∷ [] in
    let less : 1 + sum def_weight xs.now + (4 + weight_of y.now + (1 + 0)) < 4 + weight_of c.args.code.now = omega (arith, weighs, w0, w1) in
    plans c.args.tasks.now c.plan.new.self c.in_ok-plan-in-Let.field-0 (task.Form c.args.code c.args.sort) ts c.in_ok-plan-in-Let.ensures.0 c.in_ok-plan-in-Let.ensures.1 less
    (λ b S M e. let_forms b xs y c.len.result c.args.sort S M (c.len.ensures ∙ sym c.deref.ensures.len) (e ∙ ap (λ t. form c.args.sort t S) reads))

pub returns-in_ok-plan-in-Pi : goal.returns-in_ok-plan-in-Pi
returns-in_ok-plan-in-Pi c =
    let is = c.in-Pi.is in
    let xs = c.deref-in-Pi.result in
    let w0 = ap (sum binder_weight) c.deref-in-Pi.ensures.value in
    let y = c.deref-in-Pi-2.result in
    let w1 = ap (weight_of) c.deref-in-Pi-2.ensures in
    let reads : typed c.args.code.now ≡ family former.Pi (map binder_typed xs.now) (typed y.now) =
    ap typed is ∙ typed_pi c.in-Pi.span c.in-Pi.binders c.in-Pi.body
    ∙ ap (λ z. family former.Pi (map binder_typed z) (typed c.in-Pi.body.value)) (sym c.deref-in-Pi.ensures.value)
    ∙ ap (λ z. family former.Pi (map binder_typed xs.now) (typed z)) (sym c.deref-in-Pi-2.ensures) in
    let weighs = ap weight_of is ∙ weight_pi c.in-Pi.span c.in-Pi.binders c.in-Pi.body in
    let ts = task.Binding (binding.Under xs (inner.Family former.Pi c.args.sort y)) ∷ [] in
    let less : 1 + (sum binder_weight xs.now + (5 + weight_of y.now)) + 0 < 4 + weight_of c.args.code.now = omega (arith, weighs, w0, w1) in
    plans c.args.tasks.now c.plan-in-Pi.new.self c.in_ok-plan-in-Pi.field-0 (task.Form c.args.code c.args.sort) ts c.in_ok-plan-in-Pi.ensures.0 c.in_ok-plan-in-Pi.ensures.1 less
    (λ b S M e. run_one b S M (task.Binding (binding.Under xs (inner.Family former.Pi c.args.sort y))) (e ∙ ap (λ t. form c.args.sort t S) reads))

pub returns-in_ok-plan-in-Sigma : goal.returns-in_ok-plan-in-Sigma
returns-in_ok-plan-in-Sigma c =
    let is = c.in-Sigma.is in
    let xs = c.deref-in-Sigma.result in
    let w0 = ap (sum binder_weight) c.deref-in-Sigma.ensures.value in
    let y = c.deref-in-Sigma-2.result in
    let w1 = ap (weight_of) c.deref-in-Sigma-2.ensures in
    let reads : typed c.args.code.now ≡ family former.Sigma (map binder_typed xs.now) (typed y.now) =
    ap typed is ∙ typed_sigma c.in-Sigma.span c.in-Sigma.binders c.in-Sigma.body
    ∙ ap (λ z. family former.Sigma (map binder_typed z) (typed c.in-Sigma.body.value)) (sym c.deref-in-Sigma.ensures.value)
    ∙ ap (λ z. family former.Sigma (map binder_typed xs.now) (typed z)) (sym c.deref-in-Sigma-2.ensures) in
    let weighs = ap weight_of is ∙ weight_sigma c.in-Sigma.span c.in-Sigma.binders c.in-Sigma.body in
    let ts = task.Binding (binding.Under xs (inner.Family former.Sigma c.args.sort y)) ∷ [] in
    let less : 1 + (sum binder_weight xs.now + (5 + weight_of y.now)) + 0 < 4 + weight_of c.args.code.now = omega (arith, weighs, w0, w1) in
    plans c.args.tasks.now c.plan-in-Sigma.new.self c.in_ok-plan-in-Sigma.field-0 (task.Form c.args.code c.args.sort) ts c.in_ok-plan-in-Sigma.ensures.0 c.in_ok-plan-in-Sigma.ensures.1 less
    (λ b S M e. run_one b S M (task.Binding (binding.Under xs (inner.Family former.Sigma c.args.sort y))) (e ∙ ap (λ t. form c.args.sort t S) reads))

pub returns-in_ok-plan-in-PathP : goal.returns-in_ok-plan-in-PathP
returns-in_ok-plan-in-PathP c =
    let is = c.in-PathP.is in
    let l = c.deref-in-PathP.result in
    let w0 = ap (opened_weight) c.deref-in-PathP.ensures in
    let p = c.deref-in-PathP-2.result in
    let w1 = ap (weight_of) c.deref-in-PathP-2.ensures in
    let q = c.deref-in-PathP-3.result in
    let w2 = ap (weight_of) c.deref-in-PathP-3.ensures in
    let reads : typed c.args.code.now ≡ path_type_of (line_typed l.now) (typed p.now) (typed q.now) =
    ap typed is ∙ typed_path c.in-PathP.span c.in-PathP.line c.in-PathP.left c.in-PathP.right
    ∙ ap (λ z. path_type_of (line_typed z) (typed c.in-PathP.left.value) (typed c.in-PathP.right.value)) (sym c.deref-in-PathP.ensures)
    ∙ ap (λ z. path_type_of (line_typed l.now) (typed z) (typed c.in-PathP.right.value)) (sym c.deref-in-PathP-2.ensures)
    ∙ ap (λ z. path_type_of (line_typed l.now) (typed p.now) (typed z)) (sym c.deref-in-PathP-3.ensures) in
    let weighs = ap weight_of is ∙ weight_path c.in-PathP.span c.in-PathP.line c.in-PathP.left c.in-PathP.right in
    let ts = task.Lining (lining.Line l c.args.sort) ∷ task.Lining (lining.Left p c.args.sort) ∷ task.Lining (lining.Right q c.args.sort) ∷ task.Lining (lining.ClosePath c.args.sort) ∷ [] in
    let less : opened_weight l.now + (4 + weight_of p.now + (4 + weight_of q.now + (1 + 0))) < 4 + weight_of c.args.code.now = omega (arith, weighs, w0, w1, w2) in
    plans c.args.tasks.now c.plan-in-PathP.new.self c.in_ok-plan-in-PathP.field-0 (task.Form c.args.code c.args.sort) ts c.in_ok-plan-in-PathP.ensures.0 c.in_ok-plan-in-PathP.ensures.1 less
    (λ b S M e. subst (Run b ts S) (sym (e ∙ ap (λ t. form c.args.sort t S) reads)) (path_form b l p q c.args.sort S))
