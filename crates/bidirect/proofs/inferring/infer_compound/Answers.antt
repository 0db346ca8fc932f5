use Rattle.std.proofs.Common.{◌≡◌, ◌<◌, ◌+◌, [], ◌∷◌, map, sym, ap, ◌∙◌, subst, arith}
use Rattle.typing_tasks.specs.declared.tasks.Task.TheVariants as task
use Rattle.typing_tasks.specs.declared.tasks.Eliminating.TheVariants as eliminating
use Rattle.typing_tasks.specs.declared.tasks.Recurring.TheVariants as recurring
use Rattle.typing_tasks.specs.Weights.{weight_of, opened_weight, element_weight, projections_size, sum}
use Rattle.typing_tasks.specs.Outcomes.{typed, motive_typed, element_typed, infer, successor_of, recursion_of, application_of, projection_of}
use Rattle.typing_tasks.specs.Tasks.{Run}
use Rattle.typing_steps.proofs.Planning.{plans}
use Rattle.typing_tasks.proofs.TypingRows.{typed_suc, typed_recursion, typed_apply, typed_project}
use Rattle.bidirect.proofs.WeightRows.{weight_suc, weight_recursion, weight_apply, weight_project}
use Rattle.bidirect.proofs.CodeLaws.{successor_infer, recursion_infer, apply_infer, project_infer}
use Rattle.bidirect.proofs.inferring.infer_compound.Goals as goal

pub returns-in_ok-plan-in-Suc : goal.returns-in_ok-plan-in-Suc
returns-in_ok-plan-in-Suc c =
    let is = c.in-Suc.is in
    let y = c.deref.result in
    let w0 = ap (weight_of) c.deref.ensures in
    let reads : typed c.args.code.now ≡ successor_of (typed y.now) =
    ap typed is ∙ typed_suc c.in-Suc.span c.in-Suc.argument
    ∙ ap (λ z. successor_of (typed z)) (sym c.deref.ensures) in
    let weighs = ap weight_of is ∙ weight_suc c.in-Suc.span c.in-Suc.argument in
    let ts = task.Eliminating (eliminating.Number y) ∷ task.Eliminating eliminating.Successor ∷ [] in
    let less : 4 + weight_of y.now + (1 + 0) < weight_of c.args.code.now = omega (arith, weighs, w0) in
    plans c.args.tasks.now c.plan.new.self c.in_ok-plan-in-Suc.field-0 (task.Infer c.args.code) ts c.in_ok-plan-in-Suc.ensures.0 c.in_ok-plan-in-Suc.ensures.1 less
    (λ b S M e. subst (Run b ts S) (sym (e ∙ ap (λ t. infer t S) reads)) (successor_infer b y S))

pub returns-in_ok-plan-in-NatRec : goal.returns-in_ok-plan-in-NatRec
returns-in_ok-plan-in-NatRec c =
    let is = c.in-NatRec.is in
    let m = c.deref-in-NatRec.result in
    let w0 = ap (opened_weight) c.deref-in-NatRec.ensures in
    let p = c.deref-in-NatRec-2.result in
    let w1 = ap (weight_of) c.deref-in-NatRec-2.ensures in
    let q = c.deref-in-NatRec-3.result in
    let w2 = ap (weight_of) c.deref-in-NatRec-3.ensures in
    let r = c.deref-in-NatRec-4.result in
    let w3 = ap (weight_of) c.deref-in-NatRec-4.ensures in
    let reads : typed c.args.code.now ≡ recursion_of (motive_typed m.now) (typed p.now) (typed q.now) (typed r.now) =
    ap typed is ∙ typed_recursion c.in-NatRec.span c.in-NatRec.motive c.in-NatRec.base c.in-NatRec.step c.in-NatRec.argument
    ∙ ap (λ z. recursion_of (motive_typed z) (typed c.in-NatRec.base.value) (typed c.in-NatRec.step.value) (typed c.in-NatRec.argument.value)) (sym c.deref-in-NatRec.ensures)
    ∙ ap (λ z. recursion_of (motive_typed m.now) (typed z) (typed c.in-NatRec.step.value) (typed c.in-NatRec.argument.value)) (sym c.deref-in-NatRec-2.ensures)
    ∙ ap (λ z. recursion_of (motive_typed m.now) (typed p.now) (typed z) (typed c.in-NatRec.argument.value)) (sym c.deref-in-NatRec-3.ensures)
    ∙ ap (λ z. recursion_of (motive_typed m.now) (typed p.now) (typed q.now) (typed z)) (sym c.deref-in-NatRec-4.ensures) in
    let weighs = ap weight_of is ∙ weight_recursion c.in-NatRec.span c.in-NatRec.motive c.in-NatRec.base c.in-NatRec.step c.in-NatRec.argument in
    let ts = task.Recurring (recurring.Motive m) ∷ task.Recurring (recurring.Base p) ∷ task.Recurring (recurring.Step q) ∷ task.Eliminating (eliminating.Number r) ∷ task.Recurring recurring.Close ∷ [] in
    let less : opened_weight m.now + (4 + weight_of p.now + (4 + weight_of q.now + (4 + weight_of r.now + (1 + 0)))) < weight_of c.args.code.now = omega (arith, weighs, w0, w1, w2, w3) in
    plans c.args.tasks.now c.plan-in-NatRec.new.self c.in_ok-plan-in-NatRec.field-0 (task.Infer c.args.code) ts c.in_ok-plan-in-NatRec.ensures.0 c.in_ok-plan-in-NatRec.ensures.1 less
    (λ b S M e. subst (Run b ts S) (sym (e ∙ ap (λ t. infer t S) reads)) (recursion_infer b m p q r S))

pub returns-in_ok-plan-in-Apply : goal.returns-in_ok-plan-in-Apply
returns-in_ok-plan-in-Apply c =
    let is = c.in-Apply.is in
    let y = c.deref-in-Apply.result in
    let w0 = ap (weight_of) c.deref-in-Apply.ensures in
    let xs = c.deref-in-Apply-2.result in
    let w1 = ap (sum element_weight) c.deref-in-Apply-2.ensures.value in
    let reads : typed c.args.code.now ≡ application_of (typed y.now) (map element_typed xs.now) =
    ap typed is ∙ typed_apply c.in-Apply.span c.in-Apply.head c.in-Apply.elements
    ∙ ap (λ z. application_of (typed z) (map element_typed c.in-Apply.elements.items)) (sym c.deref-in-Apply.ensures)
    ∙ ap (λ z. application_of (typed y.now) (map element_typed z)) (sym c.deref-in-Apply-2.ensures.value) in
    let weighs = ap weight_of is ∙ weight_apply c.in-Apply.span c.in-Apply.head c.in-Apply.elements in
    let ts = task.Infer y ∷ task.Eliminating (eliminating.Elements xs) ∷ [] in
    let less : weight_of y.now + (1 + sum element_weight xs.now + 0) < weight_of c.args.code.now = omega (arith, weighs, w0, w1) in
    plans c.args.tasks.now c.plan-in-Apply.new.self c.in_ok-plan-in-Apply.field-0 (task.Infer c.args.code) ts c.in_ok-plan-in-Apply.ensures.0 c.in_ok-plan-in-Apply.ensures.1 less
    (λ b S M e. subst (Run b ts S) (sym (e ∙ ap (λ t. infer t S) reads)) (apply_infer b y xs S))

pub returns-in_ok-plan-in-Project : goal.returns-in_ok-plan-in-Project
returns-in_ok-plan-in-Project c =
    let is = c.in-Project.is in
    let y = c.deref-in-Project.result in
    let w0 = ap (weight_of) c.deref-in-Project.ensures in
    let xs = c.as_slice.result in
    let w1 = ap (projections_size) c.as_slice.ensures in
    let reads : typed c.args.code.now ≡ projection_of (typed y.now) xs.now =
    ap typed is ∙ typed_project c.in-Project.span c.in-Project.pair c.in-Project.projections
    ∙ ap (λ z. projection_of (typed z) c.in-Project.projections) (sym c.deref-in-Project.ensures)
    ∙ ap (λ z. projection_of (typed y.now) z) (sym c.as_slice.ensures) in
    let weighs = ap weight_of is ∙ weight_project c.in-Project.span c.in-Project.pair c.in-Project.projections in
    let ts = task.Infer y ∷ task.Eliminating (eliminating.Project xs) ∷ [] in
    let less : weight_of y.now + (1 + projections_size xs.now + 0) < weight_of c.args.code.now = omega (arith, weighs, w0, w1) in
    plans c.args.tasks.now c.plan-in-Project.new.self c.in_ok-plan-in-Project.field-0 (task.Infer c.args.code) ts c.in_ok-plan-in-Project.ensures.0 c.in_ok-plan-in-Project.ensures.1 less
    (λ b S M e. subst (Run b ts S) (sym (e ∙ ap (λ t. infer t S) reads)) (project_infer b y xs S))
