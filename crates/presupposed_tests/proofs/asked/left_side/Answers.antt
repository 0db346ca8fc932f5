use Rattle.std.proofs.Common.{refl}
use Rattle.trees.specs.Judgements.{Nil, trees}
use Rattle.trees.specs.Language.{Ty, TyEq}
use Rattle.rules.specs.Table.{nat}
use Rattle.presupposed_tests.proofs.asked.left_side.Goals as goal

pub left_of-requires : goal.left_of-requires
left_of-requires c = (Ty Nil (nat trees), Ty Nil (nat trees), (TyEq Nil (nat trees) (nat trees), c.requires, (refl, refl)))
