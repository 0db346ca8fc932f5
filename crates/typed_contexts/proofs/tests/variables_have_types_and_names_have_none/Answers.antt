use Rattle.trees.specs.Judgements.{WithName}
use Rattle.typed_contexts.proofs.GrowthLaws.{place_later}
use Rattle.typed_contexts.proofs.tests.variables_have_types_and_names_have_none.Goals as goal

pub loop-index-init : goal.loop-index-init
loop-index-init g c = let is = c.in_ok-places.ensures in (WithName is.0, c.in_ok-enter_name.ensures.place is.0 is.1)

pub loop-index-preserved : goal.loop-index-preserved
loop-index-preserved g c = (c.loop-index.invariant.0, place_later _ _ _ _ c.in_ok-found.ensures.extends c.loop-index.invariant.1)
