use Rattle.std.proofs.Common.{subst, sym, ap}
use Rattle.book.specs.Shown.{book_means}
use Rattle.trails.specs.Openings.{IsOpened}
use Rattle.trails.specs.Rows.{operator_of}
use Rattle.trails.proofs.StepLaws.{not-listed, variable-listed}
use Rattle.trails.proofs.kids.listed_at.Goals as goal

pub returns-in-Some-clause-listed : goal.returns-in-Some-clause-listed
returns-in-Some-clause-listed c = λ t is.
    let over = subst (λ o. IsOpened (book_means c.open_tree.new.book) o t) c.in-Operator.is (c.in_ok-op.ensures.opens t is) in
    record { operator = ap operator_of over.made; listed = sym c.in-Some.ensures }

pub returns-in-Operator-clause-listed : goal.returns-in-Operator-clause-listed
returns-in-Operator-clause-listed c = λ t is.
    let over = subst (λ o. IsOpened (book_means c.open_tree.new.book) o t) c.in-Operator.is (c.in_ok-op.ensures.opens t is) in
    not-listed c.in-Operator.op c.args.at t over.kids over.made (sym c.in-None.ensures)

pub returns-clause-listed : goal.returns-clause-listed
returns-clause-listed c = λ t is.
    variable-listed c.args.at c.in-Variable.field-0 t
    (subst (λ o. IsOpened (book_means c.open_tree.new.book) o t) c.in-Variable.is (c.in_ok-op.ensures.opens t is))
