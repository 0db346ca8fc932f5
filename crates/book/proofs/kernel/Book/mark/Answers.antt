use Rattle.book.proofs.CutLaws.{mark-now, rows-counted, nodes-counted}
use Rattle.book.proofs.kernel.Book.mark.Goals as goal

pub returns-clause-mark : goal.returns-clause-mark
returns-clause-mark c = mark-now _ _ c.self.view_is c.self.invariant.right c.len-rows.result c.len-nodes.result c.len-rows.ensures c.len-nodes.ensures.count

pub returns-clause-rows : goal.returns-clause-rows
returns-clause-rows c = rows-counted _ _ c.self.view_is c.len-rows.result c.len-rows.ensures

pub returns-clause-nodes : goal.returns-clause-nodes
returns-clause-nodes c = nodes-counted _ _ c.self.view_is c.self.invariant.right c.len-nodes.result c.len-nodes.ensures.count
