use Rattle.book_writer.proofs.BookLaws.{nodes-derivable}
use Rattle.book_writer.proofs.laws.laws_of_derivable.Goals as goal

pub returns : goal.returns
returns c = λ fits k J e. nodes-derivable c.args.book.now c.laws_of_book.ensures.rows c.laws_of_book.ensures.nodes fits k J e
