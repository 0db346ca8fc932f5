use Rattle.std.proofs.Common.{◌∷◌, []}
use Rattle.replay.specs.Meant.{meant_by}
use Rattle.replay.proofs.RootLaws.{nodes_after, nodes_kept}
use Rattle.replay.proofs.judged_rows.JudgedRows.judge_row.Goals as goal

pub invariant_of-self-in-Root : goal.invariant_of-self-in-Root
invariant_of-self-in-Root c =
    let before = meant_by c.args.self.now.judge in
    let right = c.in_ok-right.ensures.right c.if-not-right.false in
    record {
      are_nodes = rw right.2 (nodes_after _ before c.args.self.now.roots.items c.push.new.self.items c.in-Root.node right.0 c.args.self.now.are_nodes (rw c.in-Root.is at right.1) c.push.ensures.items);
    }

pub invariant_of-self-in_default : goal.invariant_of-self-in_default
invariant_of-self-in_default c =
    let right = c.in_ok-right.ensures.right c.if-not-right.false in
    record {
      are_nodes = rw right.2 (nodes_kept (meant_by c.args.self.now.judge) (right.0 ∷ []) c.args.self.now.roots.items c.args.self.now.are_nodes);
    }
