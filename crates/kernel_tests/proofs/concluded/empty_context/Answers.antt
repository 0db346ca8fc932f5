use Rattle.trees.specs.Language.{Ctx}
use Rattle.trees.specs.Judgements.{Nil}
use Rattle.book.specs.Shown.{book_means, book_concludes}
use Rattle.book.proofs.TestLaws.{ctx_nil-use}
use Rattle.kernel_tests.proofs.concluded.empty_context.Goals as goal

pub conclude-requires-clause-right : goal.conclude-requires-clause-right
conclude-requires-clause-right c =
    let b = c.args.book.now in
    (Ctx Nil, ctx_nil-use (book_means b) (book_concludes b) c.new.result c.new-2.result c.new.ensures c.new-2.ensures)

pub returns-clause-concludes : goal.returns-clause-concludes
returns-clause-concludes c =
    let b = c.args.book.now in
    c.in_ok-conclude.ensures.concludes (Ctx Nil) (ctx_nil-use (book_means b) (book_concludes b) c.new.result c.new-2.result c.new.ensures c.new-2.ensures)
