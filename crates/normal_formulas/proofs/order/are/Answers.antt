use Rattle.std.proofs.Common.{◌≡◌, ◌∙◌, sym, true, false, refl, arith}
use Rattle.std.specs.Cmp.Lexicographic.{pointwise}
use Rattle.std.proofs.lemmas.List.{take_all}
use Rattle.normal_formulas.specs.contracts.atoms.AtomPartialEq.TheImpl.{eq-value}
use Rattle.normal_formulas.specs.Atoms.{lists_of}
use Rattle.normal_formulas.proofs.OrderLaws.{equal-lists, apart-at, same-at, length-lists, not-told}
use Rattle.normal_formulas.proofs.order.are.Goals as goal

pub returns-then-ne : goal.returns-then-ne
returns-then-ne c =
    let told = equal-lists c.elements.result.now c.as_slice.result.now (pointwise eq-value.it c.elements.result.now c.as_slice.result.now) refl in
    let no : pointwise eq-value.it c.elements.result.now c.as_slice.result.now ≡ false = not-told _ true (sym c.if-ne.true ∙ c.ne.ensures) in (
      λ h. absurd (cc h),
      λ e. absurd (apart-at c.args.products.now c.args.lists.now c.loop-i.i c.index-products-i.result c.index-lists-i.result c.loop-i-test.true c.index-products-i.is c.index-lists-i.is
          (λ same. let yes = told.1 (c.elements.ensures.value ∙ same ∙ sym c.as_slice.ensures.value) in cc) e),
    )

pub loop-i-preserved : goal.loop-i-preserved
loop-i-preserved c =
    let told = equal-lists c.elements.result.now c.as_slice.result.now (pointwise eq-value.it c.elements.result.now c.as_slice.result.now) refl in
    let yes : pointwise eq-value.it c.elements.result.now c.as_slice.result.now ≡ true = not-told _ false (sym c.if-ne.false ∙ c.ne.ensures) in
    same-at c.args.products.now c.args.lists.now c.loop-i.i c.index-products-i.result c.index-lists-i.result (omega arith) c.loop-i-test.true c.index-products-i.is c.index-lists-i.is
    (sym c.elements.ensures.value ∙ told.0 yes ∙ c.as_slice.ensures.value) c.loop-i.invariant

pub returns : goal.returns
returns c = (λ h. let l = length-lists c.args.lists.now in sym (take_all c.loop-i.i c.args.products.now (omega arith)) ∙ c.loop-i.invariant ∙ take_all c.loop-i.i (lists_of c.args.lists.now) (omega arith), λ e. refl)
