use Rattle.trees.specs.Trees.{Var}
use Rattle.trees.specs.Judgements.{Nil, WithVar, trees}
use Rattle.trees.specs.Language.{Ty, Tm}
use Rattle.rules.specs.Table.{nat, suc}
use Rattle.book.proofs.TestLaws.{var-follows, suc-follows}
use Rattle.kernel_tests.proofs.concluded.the_successor_is_a_function.Goals as goal

pub follow-requires : goal.follow-requires
follow-requires g c = (Tm (WithVar Nil (nat trees)) (Var 0) (nat trees), var-follows _ _ Nil c.in_ok-ty.ensures.1)

pub follow-requires-2 : goal.follow-requires-2
follow-requires-2 g c =
    let G = WithVar Nil (nat trees) in
    let var = c.in_ok-var.ensures.concludes (Tm G (Var 0) (nat trees)) (var-follows _ _ Nil c.in_ok-ty.ensures.1) in
    (Tm G (suc trees (Var 0)) (nat trees), suc-follows _ _ G (Var 0) var)

pub function-requires : goal.function-requires
function-requires g c =
    let G = WithVar Nil (nat trees) in
    let var = c.in_ok-var.ensures.concludes (Tm G (Var 0) (nat trees)) (var-follows _ _ Nil c.in_ok-ty.ensures.1) in (
      Nil,
      nat trees,
      suc trees (Var 0),
      nat trees,
      c.in_ok-next.ensures.extends.conclusions _ (Ty Nil (nat trees)) (c.in_ok-var.ensures.extends.conclusions _ (Ty Nil (nat trees)) c.in_ok-ty.ensures.1),
      c.in_ok-next.ensures.concludes (Tm G (suc trees (Var 0)) (nat trees)) (suc-follows _ _ G (Var 0) var),
    )
