use Rattle.std.proofs.Common.{refl}
use Rattle.structural_rules.proofs.statements_at_trees.Goals as goal

pub returns : goal.returns
returns c = record {
  lift_var = λ H d G A. record { wants = refl; sides = refl; gives = refl };
  lift_name = λ H d G. record { wants = refl; sides = refl; gives = refl };
  lift_face = λ H d G p. record { wants = refl; sides = refl; gives = refl };
  swap_face = λ G p. record { wants = refl; sides = refl; gives = refl };
  swap_faces = λ G p q. record { wants = refl; sides = refl; gives = refl };
  merge_faces = λ G p q. record { wants = refl; sides = refl; gives = refl };
  cover_ty = λ G p q a b. record { wants = refl; sides = refl; gives = refl };
  cover_tm = λ G p q a b A. record { wants = refl; sides = refl; gives = refl };
  lam_cong = λ G A C b c B. record { wants = refl; sides = refl; gives = refl };
  pair_cong = λ G a b u v A B. record { wants = refl; sides = refl; gives = refl };
  plam_cong = λ G A b c u v. record { wants = refl; sides = refl; gives = refl };
  sys_cong = λ G p q a b u v A. record { wants = refl; sides = refl; gives = refl };
  glue_cong = λ G A p T w u a v b. record { wants = refl; sides = refl; gives = refl };
}
