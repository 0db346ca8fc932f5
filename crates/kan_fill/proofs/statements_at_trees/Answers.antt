use Rattle.std.proofs.Common.{refl}
use Rattle.kan_fill.proofs.statements_at_trees.Goals as goal

pub returns : goal.returns
returns c = record {
  filling = λ G A p b a r. record { wants = refl; sides = refl; gives = refl };
  contraction = λ G A d p b. record { wants = refl; sides = refl; gives = refl };
  preservation = λ G T A f p t t0. record { wants = refl; sides = refl; gives = refl };
  extension = λ G T A w p z a. record { wants = refl; sides = refl; gives = refl };
}
