use Rattle.std.proofs.Common.{take}
use Rattle.interval.proofs.Replaced.{IsReplacing}
use Rattle.interval.proofs.forms.Form.at.Given as goal

abbrev pub invariant-loop-product : goal.invariant-loop-product
invariant-loop-product l = IsReplacing l.name l.end l.products.items (take l.product-index l.product-items)
