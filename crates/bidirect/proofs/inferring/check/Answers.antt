use Rattle.std.proofs.Common.{◌≡◌, ◌<◌, ◌+◌, ◌*◌, [], ◌∷◌, map, sym, ap, ◌∙◌, arith}
use Rattle.typing_tasks.specs.declared.tasks.Task.TheVariants as task
use Rattle.typing_tasks.specs.declared.tasks.Defining.TheVariants as defining
use Rattle.typing_tasks.specs.declared.tasks.Binding.TheVariants as binding
use Rattle.typing_tasks.specs.declared.tasks.Pairing.TheVariants as pairing
use Rattle.typing_tasks.specs.declared.tasks.Comparing.TheVariants as comparing
use Rattle.typing_tasks.specs.Weights.{weight_of, def_weight, binder_weight, sum}
use Rattle.typing_tasks.specs.Outcomes.{typed, binder_typed, check, let_of, function, path_function, tuple_of}
use Rattle.typing_steps.proofs.Planning.{plans, run_one}
use Rattle.typing_tasks.proofs.TypingRows.{typed_let, typed_lambda, typed_path_lambda, typed_tuple}
use Rattle.bidirect.proofs.WeightRows.{weight_let, weight_lambda, weight_path_lambda, weight_tuple}
use Rattle.bidirect.proofs.CodeLaws.{let_checks}
use Rattle.bidirect.proofs.FormLaws.{checked_at}
use Rattle.bidirect.proofs.inferring.check.Goals as goal

pub returns-in_ok-plan-in-Let : goal.returns-in_ok-plan-in-Let
returns-in_ok-plan-in-Let c =
    let is = c.in-Let.is in
    let xs = c.deref.result in
    let w0 = ap (sum def_weight) c.deref.ensures.value in
    let y = c.deref-in-Let.result in
    let w1 = ap (weight_of) c.deref-in-Let.ensures in
    let reads : typed c.args.code.now ≡ let_of xs.now (typed y.now) =
    ap typed is ∙ typed_let c.in-Let.span c.in-Let.locals c.in-Let.body
    ∙ ap (λ z. let_of z (typed c.in-Let.body.value)) (sym c.deref.ensures.value)
    ∙ ap (λ z. let_of xs.now (typed z)) (sym c.deref-in-Let.ensures) in
    let weighs = ap weight_of is ∙ weight_let c.in-Let.span c.in-Let.locals c.in-Let.body in
    let ts = task.Defining (defining.Block xs) ∷ task.Check y c.args.ty ∷ task.Defining (defining.End c.len.result) ∷ [] in
    let less : 1 + sum def_weight xs.now + (3 + weight_of y.now + (1 + 0)) < 3 + weight_of c.args.code.now = omega (arith, weighs, w0, w1) in
    plans c.args.tasks.now c.plan-in-Let.new.self c.in_ok-plan-in-Let.field-0 (task.Check c.args.code c.args.ty) ts c.in_ok-plan-in-Let.ensures.0 c.in_ok-plan-in-Let.ensures.1 less
    (λ b S M (W, there, e). let_checks b xs y c.len.result c.args.ty W S M (c.len.ensures ∙ sym c.deref.ensures.len) there (e ∙ ap (λ t. check t W S) reads))

pub returns-in_ok-plan-in-Lambda : goal.returns-in_ok-plan-in-Lambda
returns-in_ok-plan-in-Lambda c =
    let is = c.in-Lambda.is in
    let xs = c.deref-in-Lambda.result in
    let w0 = ap (sum binder_weight) c.deref-in-Lambda.ensures.value in
    let y = c.deref-in-Lambda-2.result in
    let w1 = ap (weight_of) c.deref-in-Lambda-2.ensures in
    let reads : typed c.args.code.now ≡ function (map binder_typed xs.now) (typed y.now) =
    ap typed is ∙ typed_lambda c.in-Lambda.span c.in-Lambda.binders c.in-Lambda.body
    ∙ ap (λ z. function (map binder_typed z) (typed c.in-Lambda.body.value)) (sym c.deref-in-Lambda.ensures.value)
    ∙ ap (λ z. function (map binder_typed xs.now) (typed z)) (sym c.deref-in-Lambda-2.ensures) in
    let weighs = ap weight_of is ∙ weight_lambda c.in-Lambda.span c.in-Lambda.binders c.in-Lambda.body in
    let ts = task.Binding (binding.Lambda xs y c.args.ty) ∷ [] in
    let less : 4 + (sum binder_weight xs.now + weight_of y.now) + 0 < 3 + weight_of c.args.code.now = omega (arith, weighs, w0, w1) in
    plans c.args.tasks.now c.plan-in-Lambda.new.self c.in_ok-plan-in-Lambda.field-0 (task.Check c.args.code c.args.ty) ts c.in_ok-plan-in-Lambda.ensures.0 c.in_ok-plan-in-Lambda.ensures.1 less
    (λ b S M (W, there, e). run_one b S M (task.Binding (binding.Lambda xs y c.args.ty)) (W, there, e ∙ ap (λ t. check t W S) reads))

pub returns-in_ok-plan-in-Tuple : goal.returns-in_ok-plan-in-Tuple
returns-in_ok-plan-in-Tuple c =
    let is = c.in-Tuple.is in
    let xs = c.deref-in-Tuple.result in
    let w0 = ap (sum weight_of) c.deref-in-Tuple.ensures.value in
    let reads : typed c.args.code.now ≡ tuple_of (map typed xs.now) =
    ap typed is ∙ typed_tuple c.in-Tuple.span c.in-Tuple.components
    ∙ ap (λ z. tuple_of (map typed z)) (sym c.deref-in-Tuple.ensures.value) in
    let weighs = ap weight_of is ∙ weight_tuple c.in-Tuple.span c.in-Tuple.components in
    let ts = task.Pairing (pairing.Components xs c.args.ty) ∷ [] in
    let less : 1 + sum weight_of xs.now + 0 < 3 + weight_of c.args.code.now = omega (arith, weighs, w0) in
    plans c.args.tasks.now c.plan-in-Tuple.new.self c.in_ok-plan-in-Tuple.field-0 (task.Check c.args.code c.args.ty) ts c.in_ok-plan-in-Tuple.ensures.0 c.in_ok-plan-in-Tuple.ensures.1 less
    (λ b S M (W, there, e). run_one b S M (task.Pairing (pairing.Components xs c.args.ty)) (W, there, e ∙ ap (λ t. check t W S) reads))

pub returns-in_ok-plan-in-PathLambda : goal.returns-in_ok-plan-in-PathLambda
returns-in_ok-plan-in-PathLambda c =
    let is = c.in-PathLambda.is in
    let n = c.in-PathLambda.names in
    let y = c.deref-in-PathLambda.result in
    let w0 = ap (weight_of) c.deref-in-PathLambda.ensures in
    let reads : typed c.args.code.now ≡ path_function n (typed y.now) =
    ap typed is ∙ typed_path_lambda c.in-PathLambda.span c.in-PathLambda.names c.in-PathLambda.body
    ∙ ap (λ z. path_function n (typed z)) (sym c.deref-in-PathLambda.ensures) in
    let weighs = ap weight_of is ∙ weight_path_lambda c.in-PathLambda.span c.in-PathLambda.names c.in-PathLambda.body in
    let ts = task.Pairing (pairing.Names n y c.args.ty) ∷ [] in
    let less : 4 + (16 * n + weight_of y.now) + 0 < 3 + weight_of c.args.code.now = omega (arith, weighs, w0) in
    plans c.args.tasks.now c.plan-in-PathLambda.new.self c.in_ok-plan-in-PathLambda.field-0 (task.Check c.args.code c.args.ty) ts c.in_ok-plan-in-PathLambda.ensures.0 c.in_ok-plan-in-PathLambda.ensures.1 less
    (λ b S M (W, there, e). run_one b S M (task.Pairing (pairing.Names n y c.args.ty)) (W, there, e ∙ ap (λ t. check t W S) reads))

pub returns-then-not-is_checked : goal.returns-then-not-is_checked
returns-then-not-is_checked c =
    let ts = task.Infer c.args.code ∷ task.Comparing (comparing.At c.args.ty) ∷ [] in
    let less : weight_of c.args.code.now + (1 + 0) < 3 + weight_of c.args.code.now = omega arith in
    plans c.args.tasks.now c.plan.new.self c.in_ok-plan.field-0 (task.Check c.args.code c.args.ty) ts c.in_ok-plan.ensures.0 c.in_ok-plan.ensures.1 less
    (λ b S M (W, there, e). checked_at b c.args.code c.args.ty W S M (sym c.if-not-is_checked.ensures) there e)
