use Rattle.book.specs.Shown.{book_means, book_concludes}
use Rattle.trails.proofs.EquationLaws.{widens-equation}
use Rattle.trails.proofs.glued.normal.Goals as goal

pub returns-clause-goes : goal.returns-clause-goes
returns-clause-goes c = λ C widens s stands.
    let f = book_means c.args.book.now in
    let old = book_concludes c.args.book.now in
    c.in_ok-right_sides.ensures.goes C c.args.left_node.0 c.args.right_node.0 s
    (widens-equation f old C widens c.args.left_node.0 c.in_ok-from_left.from_left c.in_ok-from_left.ensures)
    (widens-equation f old C widens c.args.right_node.0 c.in_ok-from_right.from_right c.in_ok-from_right.ensures) stands
