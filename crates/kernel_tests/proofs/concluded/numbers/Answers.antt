use Rattle.trees.specs.Judgements.{Nil, trees}
use Rattle.trees.specs.Language.{Ctx, Ty, Tm}
use Rattle.rules.specs.Table.{nat, universe}
use Rattle.book.proofs.TestLaws.{nat_u-follows, ty_u-follows}
use Rattle.kernel_tests.proofs.concluded.numbers.Goals as goal

pub follow-requires : goal.follow-requires
follow-requires g c = (Tm Nil (nat trees) (universe trees), nat_u-follows _ _ Nil c.in_ok-ctx.ensures.concludes)

pub follow-requires-2 : goal.follow-requires-2
follow-requires-2 g c =
    let code = c.in_ok-code.ensures.concludes (Tm Nil (nat trees) (universe trees)) (nat_u-follows _ _ Nil c.in_ok-ctx.ensures.concludes) in
    (Ty Nil (nat trees), ty_u-follows _ _ Nil (nat trees) code)

pub returns : goal.returns
returns g c =
    let code = c.in_ok-code.ensures.concludes (Tm Nil (nat trees) (universe trees)) (nat_u-follows _ _ Nil c.in_ok-ctx.ensures.concludes) in (
      c.in_ok-ty.ensures.extends.conclusions _ (Ctx Nil) (c.in_ok-code.ensures.extends.conclusions _ (Ctx Nil) c.in_ok-ctx.ensures.concludes),
      c.in_ok-ty.ensures.concludes (Ty Nil (nat trees)) (ty_u-follows _ _ Nil (nat trees) code),
    )
