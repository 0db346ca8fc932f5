use Rattle.std.proofs.Common.{◌≡◌, Some, subst}
use Rattle.trees.specs.Judgements.{Judgement}
use Rattle.interned.specs.Shown.{rows_mean}
use Rattle.book.specs.Contents.{Contents}
use Rattle.book.specs.Coded.{node_shown}
use Rattle.book.specs.Right.{IsUse}
use Rattle.book.specs.Shown.{book_means, book_concludes}
use Rattle.book.proofs.NodeLaws.{whole-right, read-earlier, read-use}
use Rattle.book.proofs.kernel.Book.cells.Goals as goal

pub read_node-requires : goal.read_node-requires
read_node-requires c =
    let inside = c.self.inside in
    whole-right (rows_mean inside.rows) inside.nodes.rows c.args.node.0 c.row.result.now (c.self.invariant.right.each c.args.node.0 c.row.result.now c.row.ensures)

pub returns-clause-earlier : goal.returns-clause-earlier
returns-clause-earlier c =
    let inside = c.self.inside in
    read-earlier (rows_mean inside.rows) inside.nodes.rows c.args.node.0 c.row.result.now (c.self.invariant.right.each c.args.node.0 c.row.result.now c.row.ensures) (node_shown c.read_node.result) c.read_node.ensures.node

pub returns-clause-right : goal.returns-clause-right
returns-clause-right c =
    let inside = c.self.inside in
    let k = c.args.node.0 in
    let words = c.row.result.now in
    let read = node_shown c.read_node.result in
    subst (λ (b : Contents). (J : Judgement) → book_concludes b k ≡ Some J → IsUse (book_means b) (book_concludes b) read.rule read.parts read.premises J) c.self.view_is
    (read-use (rows_mean inside.rows) inside.nodes.rows k words c.row.ensures (c.self.invariant.right.each k words c.row.ensures) read c.read_node.ensures.node)
