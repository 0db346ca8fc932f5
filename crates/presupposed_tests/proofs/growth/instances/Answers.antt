use Rattle.trees.specs.Trees.{id, apply}
use Rattle.trees.specs.Judgements.{Nil, trees}
use Rattle.trees.specs.Language.{Ctx, Sb}
use Rattle.rules.specs.Table.{nat, zero}
use Rattle.typed_nodes.proofs.GrowthLaws.{says_later}
use Rattle.presupposed_tests.proofs.growth.instances.Goals as goal

pub loop-init : goal.loop-init
loop-init c =
    let sub = c.in_ok-sub.ensures.typed Nil c.in_ok-ctx.ensures.typed in
    let ctx = says_later _ _ c.in_ok-ctx.ctx (Ctx Nil) c.in_ok-sub.ensures.extends c.in_ok-ctx.ensures.typed in
    (says_later _ _ c.in_ok-sub.sub (Sb Nil id Nil) c.in_ok-term.ensures.extends sub, (zero trees, nat trees, c.in_ok-term.ensures.typed Nil ctx))

pub loop-preserved : goal.loop-preserved
loop-preserved c =
    let (sub, (t, A, says)) = c.loop.invariant in
    (says_later _ _ c.in_ok-sub.sub (Sb Nil id Nil) c.in_ok-term-2.ensures.extends sub, (apply t id, apply A id, c.in_ok-term-2.ensures.typed Nil Nil id t A sub says))
