use Rattle.side_conditions.proofs.SameLaws.{restricted_more}
use Rattle.side_conditions.proofs.restriction.restricted.Goals as goal

pub loop-equation-preserved : goal.loop-equation-preserved
loop-equation-preserved c =
    restricted_more c.args.form.now c.loop-equation.new c.in_ok-new-2.new c.args.first c.args.rest.now c.loop-equation.equation-index _ c.loop-equation-test.true c.loop-equation.invariant c.in_ok-new-2.ensures.value
