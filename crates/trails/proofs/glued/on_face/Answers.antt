use Rattle.std.proofs.Common.{refl, ap₂, subst, ◌∙◌}
use Rattle.trees.specs.declared.op.Op.TheVariants as op
use Rattle.trees.specs.Things.{both, with_a_face}
use Rattle.book.specs.Shown.{book_means}
use Rattle.book.proofs.FitLaws.{extends-trans}
use Rattle.trails.specs.Openings.{Finds}
use Rattle.trails.specs.Rows.{FindsFirst}
use Rattle.trails.specs.Trails.{HasConjunction, conjunction}
use Rattle.trails.proofs.StationLaws.{stands-kept}
use Rattle.trails.proofs.TrailLaws.{first-only}
use Rattle.trails.proofs.GoesLaws.{face-goes}
use Rattle.trails.proofs.glued.on_face.Goals as goal

pub returns-in_default-clause-goes : goal.returns-in_default-clause-goes
returns-in_default-clause-goes c = λ s stands q way.
    let none = subst (λ o. FindsFirst (book_means c.first_kid.new.book) o op.Glue s) c.in_default.is (c.in_ok-face.ensures.finds s stands) in
    none way.first.one

pub returns-in_default-2-clause-extends : goal.returns-in_default-2-clause-extends
returns-in_default-2-clause-extends c = extends-trans _ _ _ c.in_ok-face.ensures.extends c.in_ok-there.ensures.extends

pub returns-in_default-2-clause-goes : goal.returns-in_default-2-clause-goes
returns-in_default-2-clause-goes c = λ s stands q way.
    let n = c.args.number in
    let face = subst (λ o. FindsFirst (book_means c.first_kid.new.book) o op.Glue s) c.in-Some.is (c.in_ok-face.ensures.finds s stands) in
    let p = face.tree in
    let none = subst (λ o. Finds (book_means c.conjunction.new.book) o (HasConjunction n p) (conjunction n p)) c.in_default-2.is (c.in_ok-there.ensures.finds p face.is) in
    none (subst (HasConjunction n) (first-only op.Glue s way.face p way.first face.holds) way.there)

pub returns-clause-extends : goal.returns-clause-extends
returns-clause-extends c = extends-trans _ _ _ c.in_ok-face.ensures.extends (extends-trans _ _ _ c.in_ok-there.ensures.extends c.in_ok-ctx.ensures.extends)

pub returns-clause-goes : goal.returns-clause-goes
returns-clause-goes c = λ s stands.
    let n = c.args.number in
    let a = c.in_ok-face.ensures.extends.rows in
    let b = c.in_ok-there.ensures.extends.rows in
    let d = c.in_ok-ctx.ensures.extends.rows in
    let face = subst (λ o. FindsFirst (book_means c.first_kid.new.book) o op.Glue s) c.in-Some.is (c.in_ok-face.ensures.finds s stands) in
    let p = face.tree in
    let there = subst (λ o. Finds (book_means c.conjunction.new.book) o (HasConjunction n p) (conjunction n p)) c.in-Some-2.is (c.in_ok-there.ensures.finds p face.is) in
    let before = stands-kept _ _ b _ _ (stands-kept _ _ a _ _ stands) in
    face-goes _ n s p _ face.holds there.0
    (c.in_ok-ctx.ensures.means ∙ ap₂ (both with_a_face) before.ctx there.1) (d.keeps _ _ before.left) (d.keeps _ _ before.right) refl
