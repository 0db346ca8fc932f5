use Rattle.std.proofs.Common.{subst}
use Rattle.book.specs.Shown.{book_means}
use Rattle.book.proofs.FitLaws.{extends-trans}
use Rattle.trails.specs.Kids.{HasKid, kid}
use Rattle.trails.specs.Openings.{Finds}
use Rattle.trails.proofs.StationLaws.{first-left, first-right}
use Rattle.trails.proofs.kids.first_kid.Goals as goal

pub returns-in-Some-clause-finds : goal.returns-in-Some-clause-finds
returns-in-Some-clause-finds c = λ s is.
    let g = book_means c.kid_of.new.book in
    let finds = subst (λ o. Finds g o (HasKid c.args.op 0 s.left) (kid 0 s.left)) c.in-Some.is (c.in_ok-kid.ensures.kid s.left is.left) in
    first-left g c.in-Some.kid c.args.op s finds.0 finds.1

pub returns-in_ok-kid_of-in-None-clause-extends : goal.returns-in_ok-kid_of-in-None-clause-extends
returns-in_ok-kid_of-in-None-clause-extends c = extends-trans _ _ _ c.in_ok-kid.ensures.extends c.in_ok-kid_of-in-None.ensures.extends

pub returns-in_ok-kid_of-in-None-clause-finds : goal.returns-in_ok-kid_of-in-None-clause-finds
returns-in_ok-kid_of-in-None-clause-finds c = λ s is.
    let g = book_means c.kid_of.new.book in
    let never = subst (λ o. Finds g o (HasKid c.args.op 0 s.left) (kid 0 s.left)) c.in-None.is (c.in_ok-kid.ensures.kid s.left is.left) in
    first-right (book_means c.kid_of-in-None.new.book) c.in_ok-kid_of-in-None.field-0 c.args.op s never
    (c.in_ok-kid_of-in-None.ensures.kid s.right (c.in_ok-kid.ensures.extends.rows.keeps _ _ is.right))
