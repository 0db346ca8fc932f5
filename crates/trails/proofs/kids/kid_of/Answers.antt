use Rattle.std.proofs.Common.{subst, sym, ap, ◌∙◌, rules}
use Rattle.std.specs.Prelude.{slice_get}
use denote.Enum.Bare.{same_true, same_false}
use Rattle.trees.specs.contracts.op.Op.{the_type}
use Rattle.book.specs.Shown.{book_means}
use Rattle.trails.specs.Openings.{IsOpened}
use Rattle.trails.proofs.KidLaws.{variable-kid, other-kid, finds-kid}
use Rattle.trails.proofs.kids.kid_of.Goals as goal

pub returns-then-eq-clause-kid : goal.returns-then-eq-clause-kid
returns-then-eq-clause-kid c = λ t is.
    let g = book_means c.open_tree.new.book in
    let over = subst (λ o. IsOpened g o t) c.in-Operator.is (c.in_ok-op.ensures.opens t is) in
    let same = same_true the_type (search rules) c.in-Operator.op c.args.wanted (sym c.if-eq.ensures) in
    let found = c.row_at.ensures ∙ ap (λ xs. slice_get xs c.args.at) c.as_slice.ensures.value in
    finds-kid g c.in-Operator.op c.args.wanted c.in-Operator.kids.items c.args.at t c.row_at.result same found over

pub returns-in-Operator-clause-kid : goal.returns-in-Operator-clause-kid
returns-in-Operator-clause-kid c = λ t is.
    let g = book_means c.open_tree.new.book in
    let over = subst (λ o. IsOpened g o t) c.in-Operator.is (c.in_ok-op.ensures.opens t is) in
    other-kid g c.in-Operator.op c.args.wanted c.in-Operator.kids.items c.args.at t (same_false the_type c.in-Operator.op c.args.wanted (sym c.if-eq.ensures)) over

pub returns-clause-kid : goal.returns-clause-kid
returns-clause-kid c = λ t is.
    variable-kid t c.in-Variable.field-0 c.args.wanted c.args.at
    (subst (λ o. IsOpened (book_means c.open_tree.new.book) o t) c.in-Variable.is (c.in_ok-op.ensures.opens t is))
