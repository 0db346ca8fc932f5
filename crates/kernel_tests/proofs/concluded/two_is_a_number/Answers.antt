use Rattle.trees.specs.Judgements.{Nil, trees}
use Rattle.trees.specs.Language.{Tm}
use Rattle.rules.specs.Table.{nat, zero, suc}
use Rattle.book.proofs.BookLaws.{node-there}
use Rattle.book.proofs.TestLaws.{zero-follows, suc-follows}
use Rattle.kernel_tests.proofs.concluded.two_is_a_number.Goals as goal

pub follow-requires : goal.follow-requires
follow-requires g c = (Tm Nil (zero trees) (nat trees), zero-follows _ _ Nil c.in_ok-ctx.ensures.0)

pub follow-requires-2 : goal.follow-requires-2
follow-requires-2 g c =
    let one = c.in_ok-zero.ensures.concludes (Tm Nil (zero trees) (nat trees)) (zero-follows _ _ Nil c.in_ok-ctx.ensures.0) in
    (Tm Nil (suc trees (zero trees)) (nat trees), suc-follows _ _ Nil (zero trees) one)

pub follow-requires-3 : goal.follow-requires-3
follow-requires-3 g c =
    let zeroth = c.in_ok-zero.ensures.concludes (Tm Nil (zero trees) (nat trees)) (zero-follows _ _ Nil c.in_ok-ctx.ensures.0) in
    let first = c.in_ok-one.ensures.concludes (Tm Nil (suc trees (zero trees)) (nat trees)) (suc-follows _ _ Nil (zero trees) zeroth) in
    (Tm Nil (suc trees (suc trees (zero trees))) (nat trees), suc-follows _ _ Nil (suc trees (zero trees)) first)

pub step-step-requires : goal.step-step-requires
step-step-requires g c =
    let zeroth = c.in_ok-zero.ensures.concludes (Tm Nil (zero trees) (nat trees)) (zero-follows _ _ Nil c.in_ok-ctx.ensures.0) in
    let first = c.in_ok-one.ensures.concludes (Tm Nil (suc trees (zero trees)) (nat trees)) (suc-follows _ _ Nil (zero trees) zeroth) in
    let J = Tm Nil (suc trees (suc trees (zero trees))) (nat trees) in
    node-there c.follow-3.new.book c.in_ok-two.two.0 J (c.in_ok-two.ensures.concludes J (suc-follows _ _ Nil (suc trees (zero trees)) first))
