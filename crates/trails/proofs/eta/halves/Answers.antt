use Rattle.std.proofs.Common.{refl, subst}
use Rattle.trees.specs.declared.op.Op.TheVariants as op
use Rattle.book.specs.Shown.{book_means}
use Rattle.book.proofs.FitLaws.{extends-trans}
use Rattle.trails.specs.Rows.{FindsFirst}
use Rattle.trails.proofs.StationLaws.{row_of-kept}
use Rattle.trails.proofs.GoesLaws.{half-goes}
use Rattle.trails.proofs.eta.halves.Goals as goal

pub returns-in_ok-right-in-Some-clause-extends : goal.returns-in_ok-right-in-Some-clause-extends
returns-in_ok-right-in-Some-clause-extends c =
    extends-trans _ _ _ c.in_ok-first_kid.ensures.extends (extends-trans _ _ _ c.in_ok-left-in-Some.ensures.extends c.in_ok-right-in-Some.ensures.extends)

pub returns-in_ok-right-in-Some-clause-goes : goal.returns-in_ok-right-in-Some-clause-goes
returns-in_ok-right-in-Some-clause-goes c = λ s stands one.
    let g = book_means c.first_kid.new.book in
    let finds = subst (λ o. FindsFirst g o op.Pair s) c.in-Some.is (c.in_ok-first_kid.ensures.finds s stands) in
    let a = c.in_ok-first_kid.ensures.extends.rows in
    let b = c.in_ok-left-in-Some.ensures.extends.rows in
    let d = c.in_ok-right-in-Some.ensures.extends.rows in
    half-goes _ c.args.place c.args.by s _ finds.holds.one
    (d.keeps _ _ (b.keeps _ _ (a.keeps _ _ stands.ctx)))
    (row_of-kept _ _ d _ _ (c.in_ok-left-in-Some.ensures.means s.left (a.keeps _ _ stands.left) one))
    (c.in_ok-right-in-Some.ensures.means s.right (b.keeps _ _ (a.keeps _ _ stands.right)) one)
    refl

pub returns-in-None-clause-goes : goal.returns-in-None-clause-goes
returns-in-None-clause-goes c = λ s stands one q way.
    let none = subst (λ o. FindsFirst (book_means c.first_kid.new.book) o op.Pair s) c.in-None.is (c.in_ok-first_kid.ensures.finds s stands) in
    none way.one
