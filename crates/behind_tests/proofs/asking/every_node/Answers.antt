use Rattle.std.proofs.Common.{List, sym, subst, refl, arith, IsSome}
use Rattle.book.specs.declared.kernel.NodeId.{NodeId}
use Rattle.book_writer.specs.Written.{concluded_by}
use Rattle.behind_tests.proofs.AskLaws.{concluded_more}
use Rattle.behind_tests.proofs.asking.every_node.Goals as goal

pub loop-node-init : goal.loop-node-init
loop-node-init c = subst (λ (ns : List NodeId). IsSome (concluded_by c.args.book.now ns)) (sym c.new-nodes.ensures.items) refl

pub loop-node-preserved : goal.loop-node-preserved
loop-node-preserved c =
    let l = c.loop-node in
    subst (λ (ns : List NodeId). IsSome (concluded_by c.args.book.now ns)) (sym c.in_ok-push.ensures.items) (concluded_more c.args.book.now l.nodes.items (record { 0 = l.node }) l.invariant ((c.mark-node-end.ensures.nodes l.node).1 (omega arith)))
