use Rattle.interval.proofs.Laws.{neg_more}
use Rattle.interval.proofs.forms.Form.neg.Goals as goal

pub loop-product-preserved : goal.loop-product-preserved
loop-product-preserved c valuation =
    neg_more c.products-product-items.result.now c.loop-product.product-index c.product-item.result valuation _ _ _ c.loop-product-test.true c.product-item.is (c.in_ok-form-2.ensures valuation) (c.in_ok-negated.ensures valuation) (c.loop-product.invariant valuation)
