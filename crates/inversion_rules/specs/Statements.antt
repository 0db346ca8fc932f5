-- What the opening of literal forms and the uses of what stands behind a judgement state, in every
-- language.
use Rattle.std.specs.Prelude.{List, [], ◌∷◌}
use Rattle.trees.specs.declared.kind.PartKind.{PartKind}
use Rattle.trees.specs.declared.kind.PartKind.TheVariants.{Context, Subst, Term}
use Rattle.trees.specs.Language.{Language, Ctx, Ty, TyEq, Tm, TmEq, Sb, IsFace}
use Rattle.patterns.specs.Patterns.{patterns}
use Rattle.rules.specs.Table.{up, at, i0, i1, universe, pi, lam, app, sig, fst, equiv}
use Rattle.structural_rules.specs.Statements.{lifted}
use Rattle.recipes.specs.Statements.{Stated, Statement, stated}

-- the end of a line over H, under d
abbrev end_under : (L : Language) → L.tree → L.subst → L.tree → L.tree
end_under L A d r = L.apply A (L.push d r)

-- The parts of a form under a substitution: of `pi A B` or `sig A B`, of `pathp A u v`, of
-- `Glue A p T w`, of `lam A b`, of `pair a b`, of `plam b`, of `glue p c a`.

abbrev open_binder_kinds : List PartKind
open_binder_kinds = Context ∷ Subst ∷ Context ∷ Term ∷ Term ∷ []

abbrev pub open_binder : (L : Language) → Stated L open_binder_kinds
open_binder L = λ H d G A B. record {
  wants = Sb H d G ∷ Ty G A ∷ Ty (L.with_var G A) B ∷ [];
  sides = [];
  gives =
      Ty H (L.apply A d)
      ∷ Ty (L.with_var H (L.apply A d)) (L.apply B (lifted L d))
      ∷ [];
}

abbrev pub open_binder_statement : Statement
open_binder_statement = stated open_binder_kinds (open_binder patterns)

abbrev open_pathp_kinds : List PartKind
open_pathp_kinds = Context ∷ Subst ∷ Context ∷ Term ∷ Term ∷ Term ∷ []

abbrev pub open_pathp : (L : Language) → Stated L open_pathp_kinds
open_pathp L = λ H d G A u v. record {
  wants =
      Sb H d G
      ∷ Ty (L.with_name G) A
      ∷ Tm G u (at L A (i0 L))
      ∷ Tm G v (at L A (i1 L))
      ∷ [];
  sides = [];
  gives =
      Ty (L.with_name H) (L.apply A (lifted L d))
      ∷ Tm H (L.apply u d) (end_under L A d (i0 L))
      ∷ Tm H (L.apply v d) (end_under L A d (i1 L))
      ∷ [];
}

abbrev pub open_pathp_statement : Statement
open_pathp_statement = stated open_pathp_kinds (open_pathp patterns)

abbrev open_glue_type_kinds : List PartKind
open_glue_type_kinds = Context ∷ Subst ∷ Context ∷ Term ∷ Term ∷ Term ∷ Term ∷ []

abbrev pub open_glue_type : (L : Language) → Stated L open_glue_type_kinds
open_glue_type L = λ H d G A p T w.
    let on = L.with_face G p in
    let under = L.with_face H (L.apply p d) in
    record {
      wants = Sb H d G ∷ Ty G A ∷ Ty on T ∷ Tm on w (equiv L T A) ∷ [];
      sides = IsFace G p ∷ IsFace H (L.apply p d) ∷ [];
      gives =
          Ty H (L.apply A d)
          ∷ Ty under (L.apply T d)
          ∷ Tm under (L.apply w d) (equiv L (L.apply T d) (L.apply A d))
          ∷ [];
    }

abbrev pub open_glue_type_statement : Statement
open_glue_type_statement = stated open_glue_type_kinds (open_glue_type patterns)

abbrev open_lam_kinds : List PartKind
open_lam_kinds = Context ∷ Subst ∷ Context ∷ Term ∷ Term ∷ Term ∷ []

abbrev pub open_lam : (L : Language) → Stated L open_lam_kinds
open_lam L = λ H d G A b B. record {
  wants = Sb H d G ∷ Ty G A ∷ Tm (L.with_var G A) b B ∷ [];
  sides = [];
  gives =
      Ty H (L.apply A d)
      ∷ Tm
      (L.with_var H (L.apply A d))
      (L.apply b (lifted L d))
      (L.apply B (lifted L d))
      ∷ [];
}

abbrev pub open_lam_statement : Statement
open_lam_statement = stated open_lam_kinds (open_lam patterns)

abbrev open_pair_kinds : List PartKind
open_pair_kinds = Context ∷ Subst ∷ Context ∷ Term ∷ Term ∷ Term ∷ Term ∷ []

abbrev pub open_pair : (L : Language) → Stated L open_pair_kinds
open_pair L = λ H d G a b A B. record {
  wants = Sb H d G ∷ Ty G A ∷ Ty (L.with_var G A) B ∷ Tm G a A ∷ Tm G b (at L B a) ∷ [];
  sides = [];
  gives =
      Ty H (L.apply A d)
      ∷ Ty (L.with_var H (L.apply A d)) (L.apply B (lifted L d))
      ∷ Tm H (L.apply a d) (L.apply A d)
      ∷ Tm H (L.apply b d) (L.apply B (L.push d (L.apply a d)))
      ∷ [];
}

abbrev pub open_pair_statement : Statement
open_pair_statement = stated open_pair_kinds (open_pair patterns)

abbrev open_plam_kinds : List PartKind
open_plam_kinds = Context ∷ Subst ∷ Context ∷ Term ∷ Term ∷ Term ∷ Term ∷ []

abbrev pub open_plam : (L : Language) → Stated L open_plam_kinds
open_plam L = λ H d G A b u v. record {
  wants =
      Sb H d G
      ∷ Tm (L.with_name G) b A
      ∷ TmEq G (at L b (i0 L)) u (at L A (i0 L))
      ∷ TmEq G (at L b (i1 L)) v (at L A (i1 L))
      ∷ [];
  sides = [];
  gives =
      Tm (L.with_name H) (L.apply b (lifted L d)) (L.apply A (lifted L d))
      ∷ TmEq H (end_under L b d (i0 L)) (L.apply u d) (end_under L A d (i0 L))
      ∷ TmEq H (end_under L b d (i1 L)) (L.apply v d) (end_under L A d (i1 L))
      ∷ [];
}

abbrev pub open_plam_statement : Statement
open_plam_statement = stated open_plam_kinds (open_plam patterns)

abbrev open_glue_kinds : List PartKind
open_glue_kinds = Context ∷ Subst ∷ Context ∷ Term ∷ Term ∷ Term ∷ Term ∷ Term ∷ Term ∷ []

abbrev pub open_glue : (L : Language) → Stated L open_glue_kinds
open_glue L = λ H d G A p T w c a.
    let on = L.with_face G p in
    let under = L.with_face H (L.apply p d) in
    record {
      wants =
          Sb H d G
          ∷ Ty G A
          ∷ Ty on T
          ∷ Tm on w (equiv L T A)
          ∷ Tm on c T
          ∷ Tm G a A
          ∷ TmEq on (app L (fst L w) c) a A
          ∷ [];
      sides = IsFace G p ∷ IsFace H (L.apply p d) ∷ [];
      gives =
          Ty H (L.apply A d)
          ∷ Ty under (L.apply T d)
          ∷ Tm under (L.apply w d) (equiv L (L.apply T d) (L.apply A d))
          ∷ Tm under (L.apply c d) (L.apply T d)
          ∷ Tm H (L.apply a d) (L.apply A d)
          ∷ TmEq
          under
          (app L (fst L (L.apply w d)) (L.apply c d))
          (L.apply a d)
          (L.apply A d)
          ∷ [];
    }

abbrev pub open_glue_statement : Statement
open_glue_statement = stated open_glue_kinds (open_glue patterns)

-- The parts of a form in the universe, as types.

abbrev open_binder_u_kinds : List PartKind
open_binder_u_kinds = Context ∷ Term ∷ Term ∷ []

abbrev pub open_binder_u : (L : Language) → Stated L open_binder_u_kinds
open_binder_u L = λ G A B. record {
  wants = Tm G A (universe L) ∷ Tm (L.with_var G A) B (universe L) ∷ [];
  sides = [];
  gives = Ty G A ∷ Ty (L.with_var G A) B ∷ [];
}

abbrev pub open_binder_u_statement : Statement
open_binder_u_statement = stated open_binder_u_kinds (open_binder_u patterns)

abbrev open_pathp_u_kinds : List PartKind
open_pathp_u_kinds = Context ∷ Term ∷ Term ∷ Term ∷ []

abbrev pub open_pathp_u : (L : Language) → Stated L open_pathp_u_kinds
open_pathp_u L = λ G A u v.
    let ends = Tm G u (at L A (i0 L)) ∷ Tm G v (at L A (i1 L)) ∷ [] in
    record {
      wants = Tm (L.with_name G) A (universe L) ∷ ends;
      sides = [];
      gives = Ty (L.with_name G) A ∷ ends;
    }

abbrev pub open_pathp_u_statement : Statement
open_pathp_u_statement = stated open_pathp_u_kinds (open_pathp_u patterns)

abbrev open_glue_type_u_kinds : List PartKind
open_glue_type_u_kinds = Context ∷ Term ∷ Term ∷ Term ∷ Term ∷ []

abbrev pub open_glue_type_u : (L : Language) → Stated L open_glue_type_u_kinds
open_glue_type_u L = λ G A p T w.
    let on = L.with_face G p in
    record {
      wants = Tm G A (universe L) ∷ Tm on T (universe L) ∷ Tm on w (equiv L T A) ∷ [];
      sides = IsFace G p ∷ [];
      gives = Ty G A ∷ Ty on T ∷ Tm on w (equiv L T A) ∷ [];
    }

abbrev pub open_glue_type_u_statement : Statement
open_glue_type_u_statement = stated open_glue_type_u_kinds (open_glue_type_u patterns)

-- The weakenings.

abbrev up_var_kinds : List PartKind
up_var_kinds = Context ∷ Term ∷ []

abbrev pub up_var : (L : Language) → Stated L up_var_kinds
up_var L = λ H A. record {
  wants = Ctx H ∷ Ty H A ∷ [];
  sides = [];
  gives = Sb (L.with_var H A) (up L) H ∷ [];
}

abbrev pub up_var_statement : Statement
up_var_statement = stated up_var_kinds (up_var patterns)

abbrev up_name_kinds : List PartKind
up_name_kinds = Context ∷ []

abbrev pub up_name : (L : Language) → Stated L up_name_kinds
up_name L = λ H. record {
  wants = Ctx H ∷ [];
  sides = [];
  gives = Sb (L.with_name H) (up L) H ∷ [];
}

abbrev pub up_name_statement : Statement
up_name_statement = stated up_name_kinds (up_name patterns)

abbrev up_face_kinds : List PartKind
up_face_kinds = Context ∷ Term ∷ []

abbrev pub up_face : (L : Language) → Stated L up_face_kinds
up_face L = λ H p. record {
  wants = Ctx H ∷ [];
  sides = IsFace H p ∷ [];
  gives = Sb (L.with_face H p) (L.shift_by 0) H ∷ [];
}

abbrev pub up_face_statement : Statement
up_face_statement = stated up_face_kinds (up_face patterns)

-- A type of functions, or of pairs, that equals T.

abbrev fits_kinds : List PartKind
fits_kinds = Context ∷ Term ∷ Term ∷ Term ∷ []

abbrev pub fits : (L : Language) → (L.tree → L.tree → L.tree) → Stated L fits_kinds
fits L form = λ G A B T. record {
  wants = TyEq G (form A B) T ∷ Ty G A ∷ Ty (L.with_var G A) B ∷ [];
  sides = [];
  gives = Ty G (form A B) ∷ [];
}

abbrev pub fits_pi_statement : Statement
fits_pi_statement = stated fits_kinds (fits patterns (pi patterns))

abbrev pub fits_sig_statement : Statement
fits_sig_statement = stated fits_kinds (fits patterns (sig patterns))

-- Typings whose types are at hand.

abbrev anchor_kinds : List PartKind
anchor_kinds = Context ∷ Term ∷ Term ∷ []

abbrev pub anchor : (L : Language) → Stated L anchor_kinds
anchor L = λ G a A. record {
  wants = Tm G a A ∷ Ty G A ∷ [];
  sides = [];
  gives = Tm G a A ∷ [];
}

abbrev pub anchor_statement : Statement
anchor_statement = stated anchor_kinds (anchor patterns)

abbrev anchor_conv_kinds : List PartKind
anchor_conv_kinds = Context ∷ Term ∷ Term ∷ Term ∷ []

abbrev pub anchor_conv : (L : Language) → Stated L anchor_conv_kinds
anchor_conv L = λ G a A B. record {
  wants = Tm G a A ∷ TyEq G A B ∷ Ty G B ∷ [];
  sides = [];
  gives = Tm G a B ∷ [];
}

abbrev pub anchor_conv_statement : Statement
anchor_conv_statement = stated anchor_conv_kinds (anchor_conv patterns)

-- A function over C of type `pi A B`, applied: the argument has the type C, and the body, which has
-- the type E, is to have the type B there.

abbrev beta_kinds : List PartKind
beta_kinds = Context ∷ Term ∷ Term ∷ Term ∷ Term ∷ Term ∷ Term ∷ []

abbrev pub beta_asks : (L : Language) → Stated L beta_kinds
beta_asks L = λ G C b E A B a.
    let inside = L.with_var G C in
    record {
      wants =
          Ctx G
          ∷ Ty G C
          ∷ Tm inside b E
          ∷ Ty G A
          ∷ Ty (L.with_var G A) B
          ∷ Tm G a A
          ∷ Ty inside E
          ∷ TyEq G C A
          ∷ [];
      sides = [];
      gives = Tm G a C ∷ Ty G (at L E a) ∷ Ty G (at L B a) ∷ [];
    }

abbrev pub beta_asks_statement : Statement
beta_asks_statement = stated beta_kinds (beta_asks patterns)

abbrev pub beta_answers : (L : Language) → Stated L beta_kinds
beta_answers L = λ G C b E A B a. record {
  wants = Tm (L.with_var G C) b E ∷ Tm G a C ∷ TyEq G (at L E a) (at L B a) ∷ [];
  sides = [];
  gives = TmEq G (app L (lam L C b) a) (at L b a) (at L B a) ∷ [];
}

abbrev pub beta_answers_statement : Statement
beta_answers_statement = stated beta_kinds (beta_answers patterns)
