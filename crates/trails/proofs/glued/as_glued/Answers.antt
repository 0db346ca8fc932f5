use Rattle.std.proofs.Common.{refl, subst}
use Rattle.trees.specs.declared.op.Op.TheVariants as op
use Rattle.book.specs.Shown.{book_means}
use Rattle.trails.specs.Rows.{FindsFirst}
use Rattle.trails.proofs.GoesLaws.{glued-goes}
use Rattle.trails.proofs.glued.as_glued.Goals as goal

pub returns-in-Some-clause-goes : goal.returns-in-Some-clause-goes
returns-in-Some-clause-goes c = λ s stands.
    let g = book_means c.first_kid.new.book in
    let finds = subst (λ o. FindsFirst g o op.Glue s) c.in-Some.is (c.in_ok-first_kid.ensures.finds s stands) in
    let a = c.in_ok-first_kid.ensures.extends.rows in
    glued-goes _ s _ finds.holds.one (a.keeps _ _ stands.ctx) (a.keeps _ _ stands.left) (a.keeps _ _ stands.right) refl

pub returns-in-None-clause-goes : goal.returns-in-None-clause-goes
returns-in-None-clause-goes c = λ s stands q way.
    let none = subst (λ o. FindsFirst (book_means c.first_kid.new.book) o op.Glue s) c.in-None.is (c.in_ok-first_kid.ensures.finds s stands) in
    none way.one
