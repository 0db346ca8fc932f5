use Rattle.std.proofs.Common.{◌≡◌, List, ap, ◌∙◌}
use Rattle.std.proofs.lemmas.Bool.{both_ways}
use Rattle.std.proofs.lemmas.List.{take_all}
use Rattle.std.proofs.lemmas.Result.{IfOk-weaker}
use Rattle.antichains.specs.Antichains.{IsWithin}
use Rattle.points.specs.Values.{Valuation, with_value, end_value}
use Rattle.interval.specs.declared.literals.Literal.{Literal}
use Rattle.interval.specs.Forms.{form_value, LacksName}
use Rattle.interval.proofs.Replaced.{replacing_kept, replacing_lost, replaced_value, LacksName-within}
use Rattle.interval.proofs.forms.Form.at.Goals as goal
use Rattle.interval.proofs.forms.Form.at.Goals.{then-not-contains+in_ok-without+in_ok-push, else-not-contains}

pub loop-product-preserved : goal.loop-product-preserved
loop-product-preserved c =
    elim c.if-not-contains.branch [
      | then-not-contains+in_ok-without+in_ok-push w ↦
          replacing_kept c.args.name c.args.end c.loop-product.products.items c.if-not-contains.products.items c.products-product-items.result.now c.loop-product.product-index c.product-item.result w.in_ok-without.field-0 c.loop-product.invariant c.loop-product-test.true c.product-item.is w.in_ok-without.ensures
          (λ h. both_ways c.contains.result w.if-not-contains.true (c.contains.ensures.1 h))
          (ap (λ v. v.items) w.products-is ∙ w.in_ok-push.ensures.items)
      | else-not-contains w ↦
          let same : c.if-not-contains.products.items ≡ c.loop-product.products.items = ap (λ v. v.items) w.products-is in
          rw same
          (replacing_lost c.args.name c.args.end c.loop-product.products.items c.products-product-items.result.now c.loop-product.product-index c.product-item.result c.loop-product.invariant c.loop-product-test.true c.product-item.is
          (c.contains.ensures.0 w.if-not-contains.false))
    ]

pub returns-clause-value : goal.returns-clause-value
returns-clause-value c =
    let Sum : Type 0 = List (List Literal) in
    let Says : Sum → Type 0 = λ form. (valuation : Valuation) → form_value form valuation ≡ form_value c.loop-product.products.items valuation in
    let Replaced : Sum → Type 0 = λ form. (valuation : Valuation) → form_value form valuation ≡ form_value c.args.self.now (with_value c.args.name (end_value c.args.end) valuation) in
    let all = take_all c.loop-product.product-index c.products-product-items.result.now c.loop-product-test.false ∙ c.products-product-items.ensures.value in
    let done = rw all at c.loop-product.invariant in
    IfOk-weaker c.from_products.result Says Replaced
    (λ form says valuation. says valuation ∙ replaced_value c.args.name c.args.end c.loop-product.products.items c.args.self.now valuation done)
    c.from_products.ensures.value

pub returns-clause-gone : goal.returns-clause-gone
returns-clause-gone c =
    let Sum : Type 0 = List (List Literal) in
    let Among : Sum → Type 0 = λ form. IsWithin form c.loop-product.products.items in
    IfOk-weaker c.from_products.result Among (LacksName c.args.name)
    (λ form among. LacksName-within c.args.name form c.loop-product.products.items among c.loop-product.invariant.lacks)
    c.from_products.ensures.among
