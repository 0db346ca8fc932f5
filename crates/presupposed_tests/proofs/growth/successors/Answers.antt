use Rattle.trees.specs.Judgements.{Nil, trees}
use Rattle.rules.specs.Table.{suc, zero}
use Rattle.presupposed_tests.proofs.growth.successors.Goals as goal

pub loop-init : goal.loop-init
loop-init c = (zero trees, c.in_ok-number.ensures.typed Nil c.in_ok-ctx.ensures.typed)

pub loop-preserved : goal.loop-preserved
loop-preserved c =
    let (t, says) = c.loop.invariant in
    (suc trees t, c.in_ok-number-2.ensures.typed Nil t says)
