use Rattle.std.proofs.Common.{refl, subst, sym}
use Rattle.book.specs.Shown.{book_means}
use Rattle.trails.specs.Rows.{GoesOr}
use Rattle.trails.specs.Trails.{IsStep}
use Rattle.trails.proofs.follow.stepped.Goals as goal

pub returns-in_ok-into-in-Into-clause-goes : goal.returns-in_ok-into-in-Into-clause-goes
returns-in_ok-into-in-Into-clause-goes c = λ s stands.
    subst (λ x. GoesOr (book_means c.into.new.book) c.in_ok-into-in-Into.field-0 (IsStep x s)) (sym c.in-Into.is) (c.in_ok-into-in-Into.ensures.goes s stands)

pub returns-in_ok-sides-in-Side-clause-goes : goal.returns-in_ok-sides-in-Side-clause-goes
returns-in_ok-sides-in-Side-clause-goes c = λ s stands.
    subst (λ x. GoesOr (book_means c.sides.new.book) c.in_ok-sides-in-Side.field-0 (IsStep x s)) (sym c.in-Side.is) (c.in_ok-sides-in-Side.ensures.goes s stands)

pub returns-in_ok-under-in-Under-clause-goes : goal.returns-in_ok-under-in-Under-clause-goes
returns-in_ok-under-in-Under-clause-goes c = λ s stands.
    subst (λ x. GoesOr (book_means c.under.new.book) c.in_ok-under-in-Under.field-0 (IsStep x s)) (sym c.in-Under.is) (c.in_ok-under-in-Under.ensures.goes s stands)

pub returns-in_ok-halves-in-First-clause-goes : goal.returns-in_ok-halves-in-First-clause-goes
returns-in_ok-halves-in-First-clause-goes c = λ s stands.
    subst (λ x. GoesOr (book_means c.halves.new.book) c.in_ok-halves-in-First.field-0 (IsStep x s)) (sym c.in-First.is) (c.in_ok-halves-in-First.ensures.goes s stands refl)

pub returns-in_ok-halves-in-Second-clause-goes : goal.returns-in_ok-halves-in-Second-clause-goes
returns-in_ok-halves-in-Second-clause-goes c = λ s stands.
    subst (λ x. GoesOr (book_means c.halves-in-Second.new.book) c.in_ok-halves-in-Second.field-0 (IsStep x s)) (sym c.in-Second.is) (c.in_ok-halves-in-Second.ensures.goes s stands refl)

pub returns-in_ok-as_glued-in-Base-clause-goes : goal.returns-in_ok-as_glued-in-Base-clause-goes
returns-in_ok-as_glued-in-Base-clause-goes c = λ s stands.
    subst (λ x. GoesOr (book_means c.as_glued.new.book) c.in_ok-as_glued-in-Base.field-0 (IsStep x s)) (sym c.in-Base.is) (c.in_ok-as_glued-in-Base.ensures.goes s stands)

pub returns-in_ok-on_face-in-Face-clause-goes : goal.returns-in_ok-on_face-in-Face-clause-goes
returns-in_ok-on_face-in-Face-clause-goes c = λ s stands.
    subst (λ x. GoesOr (book_means c.on_face.new.book) c.in_ok-on_face-in-Face.field-0 (IsStep x s)) (sym c.in-Face.is) (c.in_ok-on_face-in-Face.ensures.goes s stands)
