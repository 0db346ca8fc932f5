use Rattle.std.proofs.Common.{refl}
use Rattle.typing_rules.proofs.terms_at_trees.Goals as goal

pub returns : goal.returns
returns c = record {
  zero_term = λ H. record { wants = refl; sides = refl; gives = refl };
  successor_term = λ H n. record { wants = refl; sides = refl; gives = refl };
  function = λ H A b B. record { wants = refl; sides = refl; gives = refl };
  applied = λ H d G A B f a. record { wants = refl; sides = refl; gives = refl };
  pair_term = λ H d G A B a b. record { wants = refl; sides = refl; gives = refl };
  first = λ H d G A B c. record { wants = refl; sides = refl; gives = refl };
  second = λ H d G A B c. record { wants = refl; sides = refl; gives = refl };
  path_term = λ H A b. record { wants = refl; sides = refl; gives = refl };
  path_applied = λ r H d G A u v c. record { wants = refl; sides = refl; gives = refl };
  recursion = λ H P a b n. record { wants = refl; sides = refl; gives = refl };
  transported = λ H A a. record { wants = refl; sides = refl; gives = refl };
}
