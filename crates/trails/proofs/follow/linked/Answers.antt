use Rattle.std.proofs.Common.{subst, sym, ◌∙◌}
use Rattle.book.specs.Shown.{book_means}
use Rattle.trails.specs.Rows.{GoesOr}
use Rattle.trails.specs.Trails.{Leads}
use Rattle.trails.proofs.GoesLaws.{step-leads, bases-lead, normal-leads}
use Rattle.trails.proofs.follow.linked.Goals as goal

pub returns-in_ok-stepped-in-Term-clause-goes : goal.returns-in_ok-stepped-in-Term-clause-goes
returns-in_ok-stepped-in-Term-clause-goes c = λ C widens s stands.
    let g = book_means c.stepped.new.book in
    let next = c.in_ok-stepped-in-Term.field-0 in
    subst (λ x. GoesOr g next (Leads C x s)) (sym c.in-Step.is)
    (step-leads g next C c.in-Step.step s (sym stands.is ∙ c.in-Term.is) (c.in_ok-stepped-in-Term.ensures.goes s stands))

pub returns-in_ok-bases-in-Glued-clause-goes : goal.returns-in_ok-bases-in-Glued-clause-goes
returns-in_ok-bases-in-Glued-clause-goes c = λ C widens s stands.
    let g = book_means c.bases.new.book in
    let next = c.in_ok-bases-in-Glued.field-0 in
    subst (λ x. GoesOr g next (Leads C x s)) (sym c.in-Normal.is)
    (bases-lead g next C c.in-Normal.left c.in-Normal.right s (sym stands.is ∙ c.in-Glued.is) (c.in_ok-bases-in-Glued.ensures.goes C widens s stands))

pub returns-in_ok-normal-in-Rough-clause-goes : goal.returns-in_ok-normal-in-Rough-clause-goes
returns-in_ok-normal-in-Rough-clause-goes c = λ C widens s stands.
    let g = book_means c.normal.new.book in
    let next = c.in_ok-normal-in-Rough.field-0 in
    subst (λ x. GoesOr g next (Leads C x s)) (sym c.in-Normal.is)
    (normal-leads g next C c.in-Normal.left c.in-Normal.right s (sym stands.is ∙ c.in-Rough.is) (c.in_ok-normal-in-Rough.ensures.goes C widens s stands))
