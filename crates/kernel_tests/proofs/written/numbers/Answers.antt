use Rattle.std.proofs.Common.{refl}
use Rattle.trees.specs.Judgements.{Nil, trees}
use Rattle.trees.specs.Language.{Tm}
use Rattle.rules.specs.Table.{nat, universe}
use Rattle.book.proofs.TestLaws.{nat_u-follows}
use Rattle.kernel_tests.proofs.written.numbers.Goals as goal

pub follow-requires : goal.follow-requires
follow-requires g c = (Tm Nil (nat trees) (universe trees), nat_u-follows _ _ Nil c.in_ok-ctx.ensures.concludes)

pub returns : goal.returns
returns g c =
    let said = c.in_ok-follow.ensures.concludes (Tm Nil (nat trees) (universe trees)) (nat_u-follows _ _ Nil c.in_ok-ctx.ensures.concludes) in
    rw said refl
