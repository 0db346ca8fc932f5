use Rattle.std.proofs.Common.{subst, sym, ◌∙◌}
use Rattle.book.specs.Shown.{book_means}
use Rattle.trails.specs.Openings.{IsOver}
use Rattle.trails.proofs.OpeningLaws.{made-over}
use Rattle.trails.proofs.open.read_row.Goals as goal

pub returns-in_ok-from_slice-in-Make : goal.returns-in_ok-from_slice-in-Make
returns-in_ok-from_slice-in-Make c = λ t is.
    let f = book_means c.args.book.now in
    subst (λ rows. IsOver f c.in-Make.op rows t) (sym c.in_ok-from_slice-in-Make.ensures.items)
    (made-over f c.in-Make.op c.in-Make.kids.now t (sym c.in-Make.ensures.meaning ∙ is))
