use Rattle.typed_contexts.proofs.GrowthLaws.{place_later}
use Rattle.typed_contexts.proofs.tests.variables_take_few_nodes.Goals as goal

pub loop-index-preserved : goal.loop-index-preserved
loop-index-preserved g c = (c.loop-index.invariant.0, place_later _ _ _ _ c.variable.ensures.extends c.loop-index.invariant.1)
