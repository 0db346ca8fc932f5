use Rattle.book.specs.Shown.{book_means}
use Rattle.book.proofs.FitLaws.{row-kind}
use Rattle.book.proofs.kernel.Book.kind.Goals as goal

pub returns-in-Term : goal.returns-in-Term
returns-in-Term c = rw c.in-Term.is at (row-kind (book_means c.args.self.now) c.row.result _ c.requires c.row.ensures.meaning)

pub returns-in-Subst : goal.returns-in-Subst
returns-in-Subst c = rw c.in-Subst.is at (row-kind (book_means c.args.self.now) c.row.result _ c.requires c.row.ensures.meaning)

pub returns-in-Context : goal.returns-in-Context
returns-in-Context c = rw c.in-Context.is at (row-kind (book_means c.args.self.now) c.row.result _ c.requires c.row.ensures.meaning)
