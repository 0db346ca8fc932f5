use Rattle.std.proofs.Common.{inl, inr, subst}
use Rattle.trees.specs.declared.op.Op.TheVariants as op
use Rattle.book.specs.Shown.{book_means}
use Rattle.book.proofs.FitLaws.{extends-trans}
use Rattle.trails.specs.Rows.{FindsFirst}
use Rattle.trails.specs.Stations.{Station}
use Rattle.trails.specs.Trails.{OneIs, IsUnder}
use Rattle.trails.proofs.StationLaws.{stands-kept}
use Rattle.trails.proofs.eta.under.Goals as goal

nowhere : (s : Station) → (OneIs op.Lam s → ⊥) → (OneIs op.PLam s → ⊥) → (q : Station) → IsUnder s q → ⊥
nowhere s lam plam q (inl under) = lam under.first.one
nowhere s lam plam q (inr under) = plam under.one

pub returns-in_ok-next-in-Some-clause-extends : goal.returns-in_ok-next-in-Some-clause-extends
returns-in_ok-next-in-Some-clause-extends c = extends-trans _ _ _ c.in_ok-domain.ensures.extends c.in_ok-next-in-Some.ensures.extends

pub returns-in_ok-next-in-Some-clause-goes : goal.returns-in_ok-next-in-Some-clause-goes
returns-in_ok-next-in-Some-clause-goes c = λ s stands.
    let a = c.in_ok-domain.ensures.extends.rows in
    let first = subst (λ o. FindsFirst (book_means c.first_kid.new.book) o op.Lam s) c.in-Some.is (c.in_ok-domain.ensures.finds s stands) in
    let goes = c.in_ok-next-in-Some.ensures.goes s first.tree (stands-kept _ _ a _ _ stands) first.is first.holds in
    record { next = goes.next; way = inl goes.way; stands = goes.stands }

pub returns-in_ok-next-in-Some-2-clause-extends : goal.returns-in_ok-next-in-Some-2-clause-extends
returns-in_ok-next-in-Some-2-clause-extends c =
    extends-trans _ _ _ c.in_ok-domain.ensures.extends
    (extends-trans _ _ _ c.in_ok-first_kid-in-None.ensures.extends c.in_ok-next-in-Some-2.ensures.extends)

pub returns-in_ok-next-in-Some-2-clause-goes : goal.returns-in_ok-next-in-Some-2-clause-goes
returns-in_ok-next-in-Some-2-clause-goes c = λ s stands.
    let a = c.in_ok-domain.ensures.extends.rows in
    let b = c.in_ok-first_kid-in-None.ensures.extends.rows in
    let never = subst (λ o. FindsFirst (book_means c.first_kid.new.book) o op.Lam s) c.in-None.is (c.in_ok-domain.ensures.finds s stands) in
    let there = stands-kept _ _ a _ _ stands in
    let first = subst (λ o. FindsFirst (book_means c.first_kid-in-None.new.book) o op.PLam s) c.in-Some-2.is (c.in_ok-first_kid-in-None.ensures.finds s there) in
    let goes = c.in_ok-next-in-Some-2.ensures.goes s (stands-kept _ _ b _ _ there) never first.holds.one in
    record { next = goes.next; way = inr goes.way; stands = goes.stands }

pub returns-in-None-2-clause-extends : goal.returns-in-None-2-clause-extends
returns-in-None-2-clause-extends c = extends-trans _ _ _ c.in_ok-domain.ensures.extends c.in_ok-first_kid-in-None.ensures.extends

pub returns-in-None-2-clause-goes : goal.returns-in-None-2-clause-goes
returns-in-None-2-clause-goes c = λ s stands.
    let a = c.in_ok-domain.ensures.extends.rows in
    let never = subst (λ o. FindsFirst (book_means c.first_kid.new.book) o op.Lam s) c.in-None.is (c.in_ok-domain.ensures.finds s stands) in
    let also = subst (λ o. FindsFirst (book_means c.first_kid-in-None.new.book) o op.PLam s) c.in-None-2.is (c.in_ok-first_kid-in-None.ensures.finds s (stands-kept _ _ a _ _ stands)) in
    nowhere s never also
