use Rattle.std.proofs.Common.{subst}
use Rattle.interned.specs.Coded.{AreCoded}
use Rattle.book.specs.Contents.{Contents}
use Rattle.book.specs.Right.{AreRight}
use Rattle.book.specs.Shown.{book_means}
use Rattle.book.proofs.kernel.Book.laws_of_book.Goals as goal

pub returns-clause-rows : goal.returns-clause-rows
returns-clause-rows c = subst (λ (b : Contents). AreCoded b.rows) c.self.view_is c.self.inside.rows.coded

pub returns-clause-nodes : goal.returns-clause-nodes
returns-clause-nodes c = subst (λ (b : Contents). AreRight (book_means b) b.nodes) c.self.view_is c.self.invariant.right
