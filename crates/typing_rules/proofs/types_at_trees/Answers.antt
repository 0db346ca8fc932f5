use Rattle.std.proofs.Common.{refl}
use Rattle.typing_rules.proofs.types_at_trees.Goals as goal

pub returns : goal.returns
returns c = record {
  universe_type = λ H. record { wants = refl; sides = refl; gives = refl };
  numbers_type = λ H. record { wants = refl; sides = refl; gives = refl };
  small_type = λ H A. record { wants = refl; sides = refl; gives = refl };
  pi_type = λ H A B. record { wants = refl; sides = refl; gives = refl };
  pi_small = λ H A B. record { wants = refl; sides = refl; gives = refl };
  sig_type = λ H A B. record { wants = refl; sides = refl; gives = refl };
  sig_small = λ H A B. record { wants = refl; sides = refl; gives = refl };
  path_type = λ H A u v. record { wants = refl; sides = refl; gives = refl };
  path_small = λ H A u v. record { wants = refl; sides = refl; gives = refl };
  motive_step = λ H P. record { wants = refl; sides = refl; gives = refl };
  path_in_universe = λ u v H c. record { wants = refl; sides = refl; gives = refl };
  family_of_numbers = λ H c. record { wants = refl; sides = refl; gives = refl };
}
