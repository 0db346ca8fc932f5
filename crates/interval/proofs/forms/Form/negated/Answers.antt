use Rattle.std.proofs.Common.{[], ◌∷◌, ◌++◌, ap, ◌∙◌}
use Rattle.interval.proofs.Laws.{negated_more}
use Rattle.interval.proofs.forms.Form.negated.Goals as goal

pub loop-literal-preserved : goal.loop-literal-preserved
loop-literal-preserved c valuation =
    negated_more c.loop-literal.products.items c.push.new.self.items c.elements-literal-items.result.now c.loop-literal.literal-index _ c.negation.result valuation c.loop-literal-test.true (c.negation.ensures valuation)
    (c.in_ok-push.ensures.items ∙ ap (λ product. c.loop-literal.products.items ++ product ∷ []) c.in_ok-single.ensures)
    (c.loop-literal.invariant valuation)
