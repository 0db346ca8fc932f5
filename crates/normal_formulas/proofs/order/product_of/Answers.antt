use Rattle.std.proofs.Common.{false}
use Rattle.normal_formulas.proofs.OrderLaws.{atom-next}
use Rattle.normal_formulas.proofs.order.product_of.Goals as goal

pub loop-atom-preserved : goal.loop-atom-preserved
loop-atom-preserved c =
    atom-next c.loop-atom.product c.in_ok-single.field-0 c.in_ok-product.product c.args.atoms.now c.loop-atom.atom-index (record { index = record { 0 = 0 }; sign = false }) c.loop-atom-test.true c.in_ok-single.ensures c.in_ok-product.ensures c.loop-atom.invariant
