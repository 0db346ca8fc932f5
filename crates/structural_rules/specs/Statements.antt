-- What the derived rules of contexts, substitutions and congruence state, in every language.
use Rattle.std.specs.Prelude.{List, [], ◌∷◌}
use Rattle.trees.specs.declared.kind.PartKind.{PartKind}
use Rattle.trees.specs.declared.kind.PartKind.TheVariants.{Context, Subst, Term}
use Rattle.trees.specs.declared.op.Op.TheVariants as op
use Rattle.trees.specs.Language.{Language, Ctx, Ty, TyEq, Tm, TmEq, Sb, IsFace}
use Rattle.patterns.specs.Patterns.{patterns}
use Rattle.rules.specs.Table.{up, weakened, at, i0, i1, eq0, eq1, join, pi, lam, app, sig}
use Rattle.rules.specs.Table.{pair, fst, pathp, plam, sys, glue_type, glue, equiv}
use Rattle.recipes.specs.Statements.{Stated, Statement, stated}

-- d under one more binder
abbrev pub lifted : (L : Language) → L.subst → L.subst
lifted L d = L.push (L.then d (up L)) (L.var 0)

-- Substitutions under a variable, a name and a face.

abbrev lift_var_kinds : List PartKind
lift_var_kinds = Context ∷ Subst ∷ Context ∷ Term ∷ []

abbrev pub lift_var : (L : Language) → Stated L lift_var_kinds
lift_var L = λ H d G A. record {
  wants = Sb H d G ∷ Ty G A ∷ [];
  sides = [];
  gives = Sb (L.with_var H (L.apply A d)) (lifted L d) (L.with_var G A) ∷ [];
}

abbrev pub lift_var_statement : Statement
lift_var_statement = stated lift_var_kinds (lift_var patterns)

abbrev lift_name_kinds : List PartKind
lift_name_kinds = Context ∷ Subst ∷ Context ∷ []

abbrev pub lift_name : (L : Language) → Stated L lift_name_kinds
lift_name L = λ H d G. record {
  wants = Sb H d G ∷ [];
  sides = [];
  gives = Sb (L.with_name H) (lifted L d) (L.with_name G) ∷ [];
}

abbrev pub lift_name_statement : Statement
lift_name_statement = stated lift_name_kinds (lift_name patterns)

abbrev lift_face_kinds : List PartKind
lift_face_kinds = Context ∷ Subst ∷ Context ∷ Term ∷ []

abbrev pub lift_face : (L : Language) → Stated L lift_face_kinds
lift_face L = λ H d G p. record {
  wants = Sb H d G ∷ [];
  sides = IsFace G p ∷ IsFace H (L.apply p d) ∷ [];
  gives = Sb (L.with_face H (L.apply p d)) d (L.with_face G p) ∷ [];
}

abbrev pub lift_face_statement : Statement
lift_face_statement = stated lift_face_kinds (lift_face patterns)

-- Faces and names in another order.

abbrev swap_face_kinds : List PartKind
swap_face_kinds = Context ∷ Term ∷ []

abbrev pub swap_face : (L : Language) → Stated L swap_face_kinds
swap_face L = λ G p.
    let inside = L.with_name (L.with_face G p) in
    let outside = L.with_face (L.with_name G) (weakened L p) in
    let same = L.push (up L) (L.var 0) in
    record {
      wants = Ctx G ∷ [];
      sides = IsFace G p ∷ [];
      gives = Sb inside same outside ∷ Sb outside same inside ∷ [];
    }

abbrev pub swap_face_statement : Statement
swap_face_statement = stated swap_face_kinds (swap_face patterns)

abbrev two_faces_kinds : List PartKind
two_faces_kinds = Context ∷ Term ∷ Term ∷ []

abbrev pub swap_faces : (L : Language) → Stated L two_faces_kinds
swap_faces L = λ G p q. record {
  wants = Ctx G ∷ [];
  sides = IsFace G p ∷ IsFace G q ∷ [];
  gives =
      Sb
      (L.with_face (L.with_face G p) q)
      (L.shift_by 0)
      (L.with_face (L.with_face G q) p)
      ∷ [];
}

abbrev pub swap_faces_statement : Statement
swap_faces_statement = stated two_faces_kinds (swap_faces patterns)

-- two faces, and their meet
abbrev pub merge_faces : (L : Language) → Stated L two_faces_kinds
merge_faces L = λ G p q.
    let two = L.with_face (L.with_face G p) q in
    let one = L.with_face G (L.make op.Meet (p ∷ q ∷ [])) in
    record {
      wants = Ctx G ∷ [];
      sides = IsFace G p ∷ IsFace G q ∷ [];
      gives = Sb two (L.shift_by 0) one ∷ Sb one (L.shift_by 0) two ∷ [];
    }

abbrev pub merge_faces_statement : Statement
merge_faces_statement = stated two_faces_kinds (merge_faces patterns)

-- Restricting to an end: where the name is at it, a type and a term are what they are at it.

abbrev restrict_ty_kinds : List PartKind
restrict_ty_kinds = Context ∷ Term ∷ []

abbrev restrict_ty : (L : Language) → (L.tree → L.tree) → L.tree → Stated L restrict_ty_kinds
restrict_ty L face end = λ G A. record {
  wants = Ctx G ∷ Ty (L.with_name G) A ∷ [];
  sides = [];
  gives =
      TyEq
      (L.with_face (L.with_name G) (face (L.var 0)))
      A
      (L.apply A (L.push (up L) end))
      ∷ [];
}

abbrev restrict_tm_kinds : List PartKind
restrict_tm_kinds = Context ∷ Term ∷ Term ∷ []

abbrev restrict_tm : (L : Language) → (L.tree → L.tree) → L.tree → Stated L restrict_tm_kinds
restrict_tm L face end = λ G a A. record {
  wants = Ctx G ∷ Ty (L.with_name G) A ∷ Tm (L.with_name G) a A ∷ [];
  sides = [];
  gives =
      TmEq
      (L.with_face (L.with_name G) (face (L.var 0)))
      a
      (L.apply a (L.push (up L) end))
      A
      ∷ [];
}

abbrev pub restrict_ty0_statement : Statement
restrict_ty0_statement =
    stated restrict_ty_kinds (restrict_ty patterns (eq0 patterns) (i0 patterns))

abbrev pub restrict_ty1_statement : Statement
restrict_ty1_statement =
    stated restrict_ty_kinds (restrict_ty patterns (eq1 patterns) (i1 patterns))

abbrev pub restrict_tm0_statement : Statement
restrict_tm0_statement =
    stated restrict_tm_kinds (restrict_tm patterns (eq0 patterns) (i0 patterns))

abbrev pub restrict_tm1_statement : Statement
restrict_tm1_statement =
    stated restrict_tm_kinds (restrict_tm patterns (eq1 patterns) (i1 patterns))

-- Covers: what is equal on two faces is equal on their join.

abbrev cover_ty_kinds : List PartKind
cover_ty_kinds = Context ∷ Term ∷ Term ∷ Term ∷ Term ∷ []

abbrev pub cover_ty : (L : Language) → Stated L cover_ty_kinds
cover_ty L = λ G p q a b.
    let whole = L.with_face G (join L p q) in
    record {
      wants =
          Ctx G
          ∷ Ty whole a
          ∷ Ty whole b
          ∷ TyEq (L.with_face G p) a b
          ∷ TyEq (L.with_face G q) a b
          ∷ [];
      sides = IsFace G p ∷ IsFace G q ∷ [];
      gives = TyEq whole a b ∷ [];
    }

abbrev pub cover_ty_statement : Statement
cover_ty_statement = stated cover_ty_kinds (cover_ty patterns)

abbrev cover_tm_kinds : List PartKind
cover_tm_kinds = Context ∷ Term ∷ Term ∷ Term ∷ Term ∷ Term ∷ []

abbrev pub cover_tm : (L : Language) → Stated L cover_tm_kinds
cover_tm L = λ G p q a b A.
    let whole = L.with_face G (join L p q) in
    record {
      wants =
          Ctx G
          ∷ Tm whole a A
          ∷ Tm whole b A
          ∷ TmEq (L.with_face G p) a b A
          ∷ TmEq (L.with_face G q) a b A
          ∷ [];
      sides = IsFace G p ∷ IsFace G q ∷ [];
      gives = TmEq whole a b A ∷ [];
    }

abbrev pub cover_tm_statement : Statement
cover_tm_statement = stated cover_tm_kinds (cover_tm patterns)

-- Congruences.

abbrev lam_cong_kinds : List PartKind
lam_cong_kinds = Context ∷ Term ∷ Term ∷ Term ∷ Term ∷ Term ∷ []

abbrev pub lam_cong : (L : Language) → Stated L lam_cong_kinds
lam_cong L = λ G A C b c B.
    let under = L.with_var G A in
    record {
      wants =
          Ctx G
          ∷ Ty G A
          ∷ Ty G C
          ∷ TyEq G A C
          ∷ Ty under B
          ∷ Tm under b B
          ∷ Tm under c B
          ∷ TmEq under b c B
          ∷ [];
      sides = [];
      gives = TmEq G (lam L A b) (lam L C c) (pi L A B) ∷ [];
    }

abbrev pub lam_cong_statement : Statement
lam_cong_statement = stated lam_cong_kinds (lam_cong patterns)

abbrev pair_cong_kinds : List PartKind
pair_cong_kinds = Context ∷ Term ∷ Term ∷ Term ∷ Term ∷ Term ∷ Term ∷ []

abbrev pub pair_cong : (L : Language) → Stated L pair_cong_kinds
pair_cong L = λ G a b u v A B. record {
  wants =
      Ctx G
      ∷ Ty G A
      ∷ Ty (L.with_var G A) B
      ∷ Tm G a A
      ∷ Tm G b A
      ∷ TmEq G a b A
      ∷ Tm G u (at L B a)
      ∷ Tm G v (at L B b)
      ∷ TmEq G u v (at L B a)
      ∷ [];
  sides = [];
  gives = TmEq G (pair L a u) (pair L b v) (sig L A B) ∷ [];
}

abbrev pub pair_cong_statement : Statement
pair_cong_statement = stated pair_cong_kinds (pair_cong patterns)

abbrev plam_cong_kinds : List PartKind
plam_cong_kinds = Context ∷ Term ∷ Term ∷ Term ∷ Term ∷ Term ∷ []

abbrev pub plam_cong : (L : Language) → Stated L plam_cong_kinds
plam_cong L = λ G A b c u v.
    let under = L.with_name G in
    let start = at L A (i0 L) in
    let end = at L A (i1 L) in
    record {
      wants =
          Ctx G
          ∷ Ty under A
          ∷ Tm under b A
          ∷ Tm under c A
          ∷ TmEq under b c A
          ∷ Tm G u start
          ∷ Tm G v end
          ∷ TmEq G (at L b (i0 L)) u start
          ∷ TmEq G (at L b (i1 L)) v end
          ∷ TmEq G (at L c (i0 L)) u start
          ∷ TmEq G (at L c (i1 L)) v end
          ∷ [];
      sides = [];
      gives = TmEq G (plam L b) (plam L c) (pathp L A u v) ∷ [];
    }

abbrev pub plam_cong_statement : Statement
plam_cong_statement = stated plam_cong_kinds (plam_cong patterns)

abbrev sys_cong_kinds : List PartKind
sys_cong_kinds = Context ∷ Term ∷ Term ∷ Term ∷ Term ∷ Term ∷ Term ∷ Term ∷ []

abbrev pub sys_cong : (L : Language) → Stated L sys_cong_kinds
sys_cong L = λ G p q a b u v A.
    let whole = L.with_face G (join L p q) in
    let left = L.with_face whole p in
    let right = L.with_face whole q in
    let both = L.with_face left q in
    record {
      wants =
          Ctx G
          ∷ Ty whole A
          ∷ Tm left a A
          ∷ Tm right b A
          ∷ TmEq both a b A
          ∷ Tm left u A
          ∷ Tm right v A
          ∷ TmEq both u v A
          ∷ TmEq left a u A
          ∷ TmEq right b v A
          ∷ [];
      sides = IsFace G p ∷ IsFace G q ∷ [];
      gives = TmEq whole (sys L p q a b) (sys L p q u v) A ∷ [];
    }

abbrev pub sys_cong_statement : Statement
sys_cong_statement = stated sys_cong_kinds (sys_cong patterns)

abbrev glue_cong_kinds : List PartKind
glue_cong_kinds = Context ∷ Term ∷ Term ∷ Term ∷ Term ∷ Term ∷ Term ∷ Term ∷ Term ∷ []

abbrev pub glue_cong : (L : Language) → Stated L glue_cong_kinds
glue_cong L = λ G A p T w u a v b.
    let on = L.with_face G p in
    record {
      wants =
          Ctx G
          ∷ Ty G A
          ∷ Ty on T
          ∷ Tm on w (equiv L T A)
          ∷ Tm on u T
          ∷ Tm G a A
          ∷ TmEq on (app L (fst L w) u) a A
          ∷ Tm on v T
          ∷ Tm G b A
          ∷ TmEq on (app L (fst L w) v) b A
          ∷ TmEq on u v T
          ∷ TmEq G a b A
          ∷ [];
      sides = IsFace G p ∷ [];
      gives = TmEq G (glue L p u a) (glue L p v b) (glue_type L A p T w) ∷ [];
    }

abbrev pub glue_cong_statement : Statement
glue_cong_statement = stated glue_cong_kinds (glue_cong patterns)
