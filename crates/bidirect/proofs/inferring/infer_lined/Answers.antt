use Rattle.std.proofs.Common.{vec_len, true≢false, ◌≡◌, ◌<◌, ◌≤◌, ◌+◌, [], ◌∷◌, length, refl, sym, ap, ◌∙◌, subst, arith}
use Rattle.translation.specs.Terms.{universe}
use Rattle.typing_tasks.specs.declared.tasks.Task.TheVariants as task
use Rattle.typing_tasks.specs.declared.tasks.Lining.TheVariants as lining
use Rattle.typing_tasks.specs.declared.tasks.Comparing.TheVariants as comparing
use Rattle.typing_tasks.specs.declared.tasks.Sort.TheVariants.{Small}
use Rattle.typing_tasks.specs.Weights.{weight_of, opened_weight}
use Rattle.typing_tasks.specs.Outcomes.{typed, line_typed, infer, path_type_of, transported}
use Rattle.typing_tasks.specs.Tasks.{Run}
use Rattle.typing_steps.specs.Steps.{Leaves}
use Rattle.typing_steps.proofs.Planning.{plans}
use Rattle.typing_tasks.proofs.TypingRows.{typed_path, typed_transport}
use Rattle.bidirect.proofs.WeightRows.{weight_path, weight_transport, weight_comp}
use Rattle.bidirect.proofs.BlockLaws.{where_some}
use Rattle.bidirect.proofs.CodeLaws.{path_form, small_infer}
use Rattle.std.proofs.lemmas.Bool.{eqb-true, eq-eqb}
use Rattle.std.proofs.lemmas.List.{nil_from_length}
use Rattle.bidirect.proofs.FormLaws.{typed_comp, typed_comp_sides, infer_none}
use Rattle.bidirect.proofs.inferring.infer_lined.Goals as goal

pub returns-in_ok-plan-in-PathP : goal.returns-in_ok-plan-in-PathP
returns-in_ok-plan-in-PathP c =
    let is = c.in-PathP.is in
    let l = c.deref.result in
    let w0 = ap (opened_weight) c.deref.ensures in
    let p = c.deref-in-PathP.result in
    let w1 = ap (weight_of) c.deref-in-PathP.ensures in
    let q = c.deref-in-PathP-2.result in
    let w2 = ap (weight_of) c.deref-in-PathP-2.ensures in
    let reads : typed c.args.code.now ≡ path_type_of (line_typed l.now) (typed p.now) (typed q.now) =
    ap typed is ∙ typed_path c.in-PathP.span c.in-PathP.line c.in-PathP.left c.in-PathP.right
    ∙ ap (λ z. path_type_of (line_typed z) (typed c.in-PathP.left.value) (typed c.in-PathP.right.value)) (sym c.deref.ensures)
    ∙ ap (λ z. path_type_of (line_typed l.now) (typed z) (typed c.in-PathP.right.value)) (sym c.deref-in-PathP.ensures)
    ∙ ap (λ z. path_type_of (line_typed l.now) (typed p.now) (typed z)) (sym c.deref-in-PathP-2.ensures) in
    let weighs = ap weight_of is ∙ weight_path c.in-PathP.span c.in-PathP.line c.in-PathP.left c.in-PathP.right in
    let ts = task.Lining (lining.Line l Small) ∷ task.Lining (lining.Left p Small) ∷ task.Lining (lining.Right q Small) ∷ task.Lining (lining.ClosePath Small) ∷ task.Comparing comparing.Small ∷ [] in
    let less : opened_weight l.now + (4 + weight_of p.now + (4 + weight_of q.now + (1 + (1 + 0)))) < weight_of c.args.code.now = omega (arith, weighs, w0, w1, w2) in
    plans c.args.tasks.now c.plan.new.self c.in_ok-plan-in-PathP.field-0 (task.Infer c.args.code) ts c.in_ok-plan-in-PathP.ensures.0 c.in_ok-plan-in-PathP.ensures.1 less
    (λ b S M e. subst (Run b ts S) (sym (e ∙ ap (λ t. infer t S) reads)) (small_infer b (task.Lining (lining.Line l Small) ∷ task.Lining (lining.Left p Small) ∷ task.Lining (lining.Right q Small) ∷ task.Lining (lining.ClosePath Small) ∷ []) (path_type_of (line_typed l.now) (typed p.now) (typed q.now)) S (λ G W. refl) (λ G A f. sym (where_some _ universe A f)) (path_form b l p q Small S)))

pub returns-in_ok-transport-in-Transport : goal.returns-in_ok-transport-in-Transport
returns-in_ok-transport-in-Transport c =
    let is = c.in-Transport.is in
    let l = c.deref-in-Transport.result in
    let w0 = ap (opened_weight) c.deref-in-Transport.ensures in
    let p = c.deref-in-Transport-2.result in
    let w1 = ap (weight_of) c.deref-in-Transport-2.ensures in
    let reads : typed c.args.code.now ≡ transported (line_typed l.now) (typed p.now) =
    ap typed is ∙ typed_transport c.in-Transport.span c.in-Transport.line c.in-Transport.base
    ∙ ap (λ z. transported (line_typed z) (typed c.in-Transport.base.value)) (sym c.deref-in-Transport.ensures)
    ∙ ap (λ z. transported (line_typed l.now) (typed z)) (sym c.deref-in-Transport-2.ensures) in
    let weighs = ap weight_of is ∙ weight_transport c.in-Transport.span c.in-Transport.line c.in-Transport.base in
    let enough : opened_weight l.now + weight_of p.now + 16 ≤ weight_of c.args.code.now = omega (arith, weighs, w0, w1) in
    λ b x S M is' e. subst (Leaves b x c.args.tasks.now c.transport.new.tasks (task.Infer c.args.code) c.in_ok-transport-in-Transport.field-0) (sym (e ∙ ap (λ t. infer t S) reads))
    (c.in_ok-transport-in-Transport.ensures (task.Infer c.args.code) enough b x S is')

pub returns-in_ok-transport-in-Comp : goal.returns-in_ok-transport-in-Comp
returns-in_ok-transport-in-Comp c =
    let is = c.in-Comp.is in
    let l = c.deref-then-is_empty.result in
    let p = c.deref-then-is_empty-2.result in
    let w0 = ap opened_weight c.deref-then-is_empty.ensures in
    let w1 = ap weight_of c.deref-then-is_empty-2.ensures in
    let sides = c.in-Comp.sides in
    let counted = sides.ok.0 in
    let none = eqb-true _ _ (sym c.if-is_empty.ensures) in
    let no_sides : sides.items ≡ [] = nil_from_length sides.items (omega (arith, counted, none)) in
    let reads : typed c.args.code.now ≡ transported (line_typed l.now) (typed p.now) =
    ap typed is ∙ typed_comp c.in-Comp.span c.in-Comp.line c.in-Comp.base sides no_sides
    ∙ ap (λ z. transported (line_typed z) (typed c.in-Comp.base.value)) (sym c.deref-then-is_empty.ensures)
    ∙ ap (λ z. transported (line_typed l.now) (typed z)) (sym c.deref-then-is_empty-2.ensures) in
    let weighs = ap weight_of is ∙ weight_comp c.in-Comp.span c.in-Comp.line c.in-Comp.base sides in
    let enough : opened_weight l.now + weight_of p.now + 16 ≤ weight_of c.args.code.now = omega (arith, weighs, w0, w1) in
    λ b x S M is' e. subst (Leaves b x c.args.tasks.now c.transport-then-is_empty.new.tasks (task.Infer c.args.code) c.in_ok-transport-in-Comp.field-0) (sym (e ∙ ap (λ t. infer t S) reads))
    (c.in_ok-transport-in-Comp.ensures (task.Infer c.args.code) enough b x S is')

pub returns-else-is_empty : goal.returns-else-is_empty
returns-else-is_empty c =
    let sides = c.in-Comp.sides in
    let counted = sides.ok.0 in
    let some : sides.items ≡ [] → ⊥ = λ e.
    let none : vec_len sides ≡ 0 = let k = ap length e in omega (arith, counted, k) in
    absurd (true≢false (sym (eq-eqb (vec_len sides) 0 none) ∙ sym c.if-is_empty.ensures)) in
    λ b x S M is e. e ∙ infer_none (typed c.args.code.now) S (ap (λ z. (typed z).infer S.known) c.in-Comp.is ∙ typed_comp_sides c.in-Comp.span c.in-Comp.line c.in-Comp.base sides some S.known)
