use Rattle.faces.proofs.Formulas.{zeros_more}
use Rattle.faces.proofs.faces.Face.where_zero.Goals as goal

pub loop-product-preserved : goal.loop-product-preserved
loop-product-preserved c x =
    zeros_more c.products-product-items.result.now c.loop-product.product-index c.product-item.result c.loop-product-test.true c.product-item.is x _ _ _ (c.in_ok-face-2.ensures x) (c.in_ok-where_some_is_zero.ensures x) (c.loop-product.invariant x)
