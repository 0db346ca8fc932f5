use Rattle.book_tests.proofs.runs.given.Goals as goal

pub returns-clause-gives : goal.returns-clause-gives
returns-clause-gives c gives right = c.in_ok-run.ensures.concludes gives (right c.args.book.now)
