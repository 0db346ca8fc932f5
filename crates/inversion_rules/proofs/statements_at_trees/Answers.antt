use Rattle.std.proofs.Common.{refl}
use Rattle.inversion_rules.proofs.statements_at_trees.Goals as goal

pub returns : goal.returns
returns c = record {
  open_binder = λ H d G A B. record { wants = refl; sides = refl; gives = refl };
  open_pathp = λ H d G A u v. record { wants = refl; sides = refl; gives = refl };
  open_glue_type = λ H d G A p T w. record { wants = refl; sides = refl; gives = refl };
  open_lam = λ H d G A b B. record { wants = refl; sides = refl; gives = refl };
  open_pair = λ H d G a b A B. record { wants = refl; sides = refl; gives = refl };
  open_plam = λ H d G A b u v. record { wants = refl; sides = refl; gives = refl };
  open_glue = λ H d G A p T w c a. record { wants = refl; sides = refl; gives = refl };
  open_binder_u = λ G A B. record { wants = refl; sides = refl; gives = refl };
  open_pathp_u = λ G A u v. record { wants = refl; sides = refl; gives = refl };
  open_glue_type_u = λ G A p T w. record { wants = refl; sides = refl; gives = refl };
  up_var = λ H A. record { wants = refl; sides = refl; gives = refl };
  up_name = λ H. record { wants = refl; sides = refl; gives = refl };
  up_face = λ H p. record { wants = refl; sides = refl; gives = refl };
  fits_pi = λ G A B T. record { wants = refl; sides = refl; gives = refl };
  fits_sig = λ G A B T. record { wants = refl; sides = refl; gives = refl };
  anchor = λ G a A. record { wants = refl; sides = refl; gives = refl };
  anchor_conv = λ G a A B. record { wants = refl; sides = refl; gives = refl };
  beta_asks = λ G C b E A B a. record { wants = refl; sides = refl; gives = refl };
  beta_answers = λ G C b E A B a. record { wants = refl; sides = refl; gives = refl };
}
