use Rattle.std.proofs.Common.{subst, sym, ◌∙◌}
use Rattle.book.specs.Shown.{book_means}
use Rattle.trails.specs.Openings.{IsOpened}
use Rattle.trails.proofs.EndLaws.{variable-form, made-form, open-form}
use Rattle.trails.proofs.ends.form_of.Goals as goal

pub returns-in-Variable-clause-form : goal.returns-in-Variable-clause-form
returns-in-Variable-clause-form c = λ t is.
    variable-form t c.in-Variable.index
    (subst (λ o. IsOpened (book_means c.open_tree.new.book) o t) c.in-Variable.is (c.in_ok-index.ensures.opens t is))

pub returns-then-is_made-clause-form : goal.returns-then-is_made-clause-form
returns-then-is_made-clause-form c = λ t is.
    let over = subst (λ o. IsOpened (book_means c.open_tree.new.book) o t) c.in-Operator.is (c.in_ok-index.ensures.opens t is) in
    made-form t c.in-Operator.op over.kids over.made (sym c.is_made.ensures ∙ c.if-is_made.true)

pub returns-clause-form : goal.returns-clause-form
returns-clause-form c = λ t is.
    let over = subst (λ o. IsOpened (book_means c.open_tree.new.book) o t) c.in-Operator.is (c.in_ok-index.ensures.opens t is) in
    open-form t c.in-Operator.op over.kids over.made (sym c.is_made.ensures ∙ c.if-is_made.false)
