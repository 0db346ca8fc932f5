use Rattle.std.proofs.Common.{refl}
use Rattle.typing_rules.proofs.places_at_trees.Goals as goal

pub returns : goal.returns
returns c = record {
  no_entries = record { wants = refl; sides = refl; gives = refl };
  with_entry = λ H A. record { wants = refl; sides = refl; gives = refl };
  with_name = λ H. record { wants = refl; sides = refl; gives = refl };
  nothing_done = λ H. record { wants = refl; sides = refl; gives = refl };
  past_variable = λ H d G A. record { wants = refl; sides = refl; gives = refl };
  past_name = λ H d G. record { wants = refl; sides = refl; gives = refl };
  under_variable = λ H d G A. record { wants = refl; sides = refl; gives = refl };
  under_name = λ H d G. record { wants = refl; sides = refl; gives = refl };
  composed = λ K e H d G. record { wants = refl; sides = refl; gives = refl };
  pushed = λ H d G A a. record { wants = refl; sides = refl; gives = refl };
  line_ends = λ H. record { wants = refl; sides = refl; gives = refl };
  motive_start = λ H. record { wants = refl; sides = refl; gives = refl };
  type_instance = λ H d G A. record { wants = refl; sides = refl; gives = refl };
  term_instance = λ H d G a A. record { wants = refl; sides = refl; gives = refl };
  variable = λ H d G A. record { wants = refl; sides = refl; gives = refl };
}
