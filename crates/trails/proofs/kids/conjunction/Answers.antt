use Rattle.std.proofs.Common.{subst}
use Rattle.trees.specs.declared.op.Op.TheVariants as op
use Rattle.book.specs.Shown.{book_means}
use Rattle.book.proofs.FitLaws.{extends-trans}
use Rattle.trails.specs.Openings.{Finds}
use Rattle.trails.specs.Trails.{behind, HasBehind}
use Rattle.trails.proofs.KidLaws.{finds-in}
use Rattle.trails.proofs.kids.conjunction.Goals as goal

pub returns-in_ok-kid_of-in-Some-clause-extends : goal.returns-in_ok-kid_of-in-Some-clause-extends
returns-in_ok-kid_of-in-Some-clause-extends c = extends-trans _ _ _ c.in_ok-rest.ensures.extends c.in_ok-kid_of-in-Some.ensures.extends

pub returns-in_ok-kid_of-in-Some-clause-finds : goal.returns-in_ok-kid_of-in-Some-clause-finds
returns-in_ok-kid_of-in-Some-clause-finds c = λ p is.
    let g = book_means c.behind.new.book in
    let rest = subst (λ o. Finds g o (HasBehind op.Join 1 c.args.number p) (behind 1 c.args.number p)) c.in-Some.is (c.in_ok-rest.ensures.finds p is) in
    finds-in (book_means c.kid_of.new.book) c.in_ok-kid_of-in-Some.field-0 _ _ _ rest.0 (c.in_ok-kid_of-in-Some.ensures.kid (behind 1 c.args.number p) rest.1)

pub returns-in-None-clause-finds : goal.returns-in-None-clause-finds
returns-in-None-clause-finds c = λ p is.
    let none = subst (λ o. Finds (book_means c.behind.new.book) o (HasBehind op.Join 1 c.args.number p) (behind 1 c.args.number p)) c.in-None.is (c.in_ok-rest.ensures.finds p is) in
    λ has. none has.0
