use Rattle.std.proofs.Common.{◌∙◌}
use Rattle.book.specs.Shown.{book_concludes}
use Rattle.book_writer.proofs.NeededLaws.{among-some}
use Rattle.book_writer.proofs.copies.add_needed_node.Goals as goal

pub returns-in_ok-add_node-clause-concludes : goal.returns-in_ok-add_node-clause-concludes
returns-in_ok-add_node-clause-concludes c = λ J e.
    c.in_ok-add_node.ensures.concludes ∙ (among-some c.args.needed.now.nodes.items (book_concludes c.args.book.now) c.args.node.0 J e).is
