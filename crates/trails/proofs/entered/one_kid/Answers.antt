use Rattle.std.proofs.Common.{subst}
use Rattle.book.specs.Shown.{book_means}
use Rattle.book.proofs.FitLaws.{extends-trans}
use Rattle.trails.specs.Kids.{HasKid, kid}
use Rattle.trails.specs.Openings.{Finds}
use Rattle.trails.proofs.entered.one_kid.Goals as goal

pub returns-in_default-2-clause-extends : goal.returns-in_default-2-clause-extends
returns-in_default-2-clause-extends c = extends-trans _ _ _ c.in_ok-left.ensures.extends c.in_ok-right.ensures.extends

pub returns-then-branch-clause-extends : goal.returns-then-branch-clause-extends
returns-then-branch-clause-extends c = extends-trans _ _ _ c.in_ok-left.ensures.extends c.in_ok-right.ensures.extends

pub returns-then-branch-clause-finds : goal.returns-then-branch-clause-finds
returns-then-branch-clause-finds c = λ s stands.
    let op = c.args.op in
    let k = c.args.at in
    let a = c.in_ok-left.ensures.extends.rows in
    let b = c.in_ok-right.ensures.extends.rows in
    let left = subst (λ o. Finds (book_means c.kid_of.new.book) o (HasKid op k s.left) (kid k s.left)) c.in-Some.is (c.in_ok-left.ensures.kid s.left stands.left) in
    let right = subst (λ o. Finds (book_means c.kid_of-2.new.book) o (HasKid op k s.right) (kid k s.right)) c.in-Some-2.is (c.in_ok-right.ensures.kid s.right (a.keeps _ _ stands.right)) in
    let told = c.in_ok-are_one.ensures (kid k s.left) (kid k s.right) (b.keeps _ _ left.1) right.1 in
    (record { left = left.0; right = right.0; same = told.0 c.if-branch.true }, b.keeps _ _ left.1)

pub returns-else-branch-clause-extends : goal.returns-else-branch-clause-extends
returns-else-branch-clause-extends c = extends-trans _ _ _ c.in_ok-left.ensures.extends c.in_ok-right.ensures.extends
