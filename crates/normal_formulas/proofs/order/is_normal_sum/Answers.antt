use Rattle.std.proofs.Common.{◌+◌, ◌∙◌, sym, subst, take, ap, arith}
use Rattle.std.specs.List.{list_all}
use Rattle.std.proofs.lemmas.List.{take_all}
use Rattle.antichains.specs.Antichains.{some_all, IsNormal}
use Rattle.normal_formulas.specs.Atoms.{lists_of, atom_cmp}
use Rattle.normal_formulas.proofs.OrderLaws.{AreProducts, products-next, normal-exact, length-lists, exact}
use Rattle.normal_formulas.proofs.order.is_normal_sum.Goals as goal

pub loop-atoms-preserved : goal.loop-atoms-preserved
loop-atoms-preserved c =
    subst (λ ps. AreProducts ps (take (c.loop-atoms.atoms-index + 1) (lists_of c.args.sum.now))) (sym c.in_ok-push.ensures.items)
    (products-next c.loop-atoms.products.items c.args.sum.now c.loop-atoms.atoms-index c.in_ok-product_of.field-0 c.atoms-item.result c.loop-atoms-test.true c.atoms-item.is
    (λ test. c.in_ok-product_of.ensures test ∙ ap (list_all test) c.deref.ensures.value) c.loop-atoms.invariant)

pub returns : goal.returns
returns c =
    let l = length-lists c.args.sum.now in
    let all = subst (AreProducts c.loop-atoms.products.items) (take_all c.loop-atoms.atoms-index (lists_of c.args.sum.now) (omega arith)) c.loop-atoms.invariant in
    let both = normal-exact exact c.products.result.now c.loop-atoms.products.items (lists_of c.args.sum.now) (subst (IsNormal atom_cmp) (sym c.products.ensures.value) c.products.ensures.normal) (λ test. ap (some_all test) c.products.ensures.value ∙ c.in_ok-normal.ensures.truth test) all in
    (λ yes. both.0 (c.are.ensures.0 yes), λ n. c.are.ensures.1 (both.1 n))
