-- The rules: what each wants of its premises, its side conditions, and what it gives.
use Rattle.std.specs.Prelude.{List, [], ◌∷◌}
use Rattle.trees.specs.declared.op.Op.TheVariants as op
use Rattle.trees.specs.declared.kind.PartKind.{PartKind}
use Rattle.trees.specs.declared.kind.PartKind.TheVariants as part
use Rattle.theory.specs.declared.rule.ContextRule.{ContextRule}
use Rattle.theory.specs.declared.rule.ContextRule.TheVariants.{CtxNil, CtxVar, CtxName, CtxFace}
use Rattle.theory.specs.declared.rule.ContextRule.TheVariants.{SubId, SubWk, SubWkName, SubWkFace}
use Rattle.theory.specs.declared.rule.ContextRule.TheVariants.{SubVar, SubForm, SubFace, SubComp}
use Rattle.theory.specs.declared.rule.InstanceRule.{InstanceRule}
use Rattle.theory.specs.declared.rule.InstanceRule.TheVariants.{TySub, TyEqSub, TmSub, TmEqSub}
use Rattle.theory.specs.declared.rule.InstanceRule.TheVariants.{TyCong, TmCong, TyInt, TmInt, TmVar}
use Rattle.theory.specs.declared.rule.EqualityRule.{EqualityRule}
use Rattle.theory.specs.declared.rule.EqualityRule.TheVariants.{TyEqRefl, TyEqSym, TyEqTrans}
use Rattle.theory.specs.declared.rule.EqualityRule.TheVariants.{TmEqRefl, TmEqSym, TmEqTrans}
use Rattle.theory.specs.declared.rule.EqualityRule.TheVariants.{TmConv, TmEqConv, TyEqCover}
use Rattle.theory.specs.declared.rule.EqualityRule.TheVariants.{TmEqCover, TyEqAbsurd, TmEqAbsurd}
use Rattle.theory.specs.declared.rule.UniverseRule.{UniverseRule}
use Rattle.theory.specs.declared.rule.UniverseRule.TheVariants.{TyUniv, TyU, TyEqU}
use Rattle.theory.specs.declared.rule.PiRule.{PiRule}
use Rattle.theory.specs.declared.rule.PiRule.TheVariants.{PiTy, PiU, PiTyCong, PiUCong, Lam, App}
use Rattle.theory.specs.declared.rule.PiRule.TheVariants.{AppCong, PiBeta, PiEta}
use Rattle.theory.specs.declared.rule.SigmaRule.{SigmaRule}
use Rattle.theory.specs.declared.rule.SigmaRule.TheVariants.{SigTy, SigU, SigTyCong, SigUCong, Pair}
use Rattle.theory.specs.declared.rule.SigmaRule.TheVariants.{Fst, Snd, FstCong, SndCong, SigBeta1}
use Rattle.theory.specs.declared.rule.SigmaRule.TheVariants.{SigBeta2, SigEta}
use Rattle.theory.specs.declared.rule.PathRule.{PathRule}
use Rattle.theory.specs.declared.rule.PathRule.TheVariants.{PathTy, PathU, PathTyCong, PathUCong}
use Rattle.theory.specs.declared.rule.PathRule.TheVariants.{PLam, PApp, PAppCong, PathLeft}
use Rattle.theory.specs.declared.rule.PathRule.TheVariants.{PathRight, PathBeta, PathEta}
use Rattle.theory.specs.declared.rule.NatRule.{NatRule}
use Rattle.theory.specs.declared.rule.NatRule.TheVariants.{NatU, Zero, Suc, SucCong, NatRec}
use Rattle.theory.specs.declared.rule.NatRule.TheVariants.{NatRecCong, NatRecZero, NatRecSuc}
use Rattle.theory.specs.declared.rule.SystemRule.{SystemRule}
use Rattle.theory.specs.declared.rule.SystemRule.TheVariants.{SysTy, SysTm, SysTyLeft, SysTyRight}
use Rattle.theory.specs.declared.rule.SystemRule.TheVariants.{SysLeft, SysRight, EmptyTy, EmptyTm}
use Rattle.theory.specs.declared.rule.CompRule.{CompRule}
use Rattle.theory.specs.declared.rule.CompRule.TheVariants.{Comp, CompFace, CompCong, CompPi}
use Rattle.theory.specs.declared.rule.CompRule.TheVariants.{CompSig, CompPath, CompZero, CompSuc}
use Rattle.theory.specs.declared.rule.CompRule.TheVariants.{CompGlue, CompU}
use Rattle.theory.specs.declared.rule.GlueRule.{GlueRule}
use Rattle.theory.specs.declared.rule.GlueRule.TheVariants.{GlueTy, GlueU, GlueTyFace, GlueUFace}
use Rattle.theory.specs.declared.rule.GlueRule.TheVariants.{GlueTyCong, GlueUCong, Glue, GlueFace}
use Rattle.theory.specs.declared.rule.GlueRule.TheVariants.{Unglue, UnglueFace, UnglueCong}
use Rattle.theory.specs.declared.rule.GlueRule.TheVariants.{GlueBeta, GlueEta}
use Rattle.theory.specs.declared.rule.RuleName.{RuleName}
use Rattle.theory.specs.declared.rule.RuleName.TheVariants.{Contexts, Instances, Equality, Universe}
use Rattle.theory.specs.declared.rule.RuleName.TheVariants.{Pi, Sigma, Paths, Naturals, Systems}
use Rattle.theory.specs.declared.rule.RuleName.TheVariants.{Composition, Gluing}
use Rattle.trees.specs.Language.{Language, Judged, Tested, RuleOf, JudgementOf, Rule, Ctx, Ty, TyEq}
use Rattle.trees.specs.Language.{Tm, TmEq, Sb, IsFormula, IsFace, Holds, Alike}
use Rattle.theory.specs.RuleNames.{kinds_of}

-- A rule wants its premises and gives its conclusion, when its side conditions hold.
infix 15 ◌⟹◌
infix 14 ◌when◌
abbrev pub ◌⟹◌ : {C T S : Type 0} → List (Judged C T S) → Judged C T S → RuleOf C T S
premises ⟹ conclusion = record { wants = premises; sides = []; gives = conclusion }

abbrev pub ◌when◌ : {C T S : Type 0} → RuleOf C T S → List (Tested C T S) → RuleOf C T S
r when conditions = record { wants = r.wants; sides = conditions; gives = r.gives }

-- a side of a system: a face, and a tree where it holds
pub record Side (T : Type 0) : Type 0 where
  pub face : T
  pub body : T

module _ (L : Language) where
  open L use {tree, subst, context, var, make, apply, shift_by, push, then}
  open L use {nil, with_var, with_name, with_face}

  -- a rule over parts of these kinds
  abbrev pub Over : List PartKind → Type 0
  Over [] = Rule L
  Over (part.Context ∷ kinds) = context → Over kinds
  Over (part.Subst ∷ kinds) = subst → Over kinds
  Over (part.Term ∷ kinds) = tree → Over kinds

  -- How the rules are written. An entry of a context is a variable of a type, a name or a face.

  infixl 80 ◌∙◌ ◌∙I ◌∣◌
  abbrev pub ◌∙◌ : context → tree → context
  G ∙ A = with_var G A

  abbrev pub ◌∙I : context → context
  G ∙I = with_name G

  abbrev pub ◌∣◌ : context → tree → context
  G ∣ p = with_face G p

  infix 70 ◌⊢◌ ◌⊢◌≐◌ ◌⊢◌∶◌ ◌⊢◌≐◌∶◌ ◌from◌to◌
  abbrev pub ◌⊢◌ : context → tree → JudgementOf L
  G ⊢ A = Ty G A

  abbrev pub ◌⊢◌≐◌ : context → tree → tree → JudgementOf L
  G ⊢ A ≐ B = TyEq G A B

  abbrev pub ◌⊢◌∶◌ : context → tree → tree → JudgementOf L
  G ⊢ a ∶ A = Tm G a A

  abbrev pub ◌⊢◌≐◌∶◌ : context → tree → tree → tree → JudgementOf L
  G ⊢ a ≐ b ∶ A = TmEq G a b A

  abbrev pub ◌from◌to◌ : subst → context → context → JudgementOf L
  d from H to G = Sb H d G

  infixl 90 ◌⟦◌⟧ ◌⟨◌⟩
  abbrev pub ◌⟦◌⟧ : tree → subst → tree
  A ⟦ d ⟧ = apply A d

  -- substitutions

  abbrev pub id : subst
  id = shift_by 0

  abbrev pub up : subst
  up = shift_by 1

  -- `A+`
  abbrev pub weakened : tree → tree
  weakened A = apply A up

  -- a in place of the innermost variable or name
  abbrev pub at : tree → tree → tree
  at A a = apply A (push id a)

  abbrev pub ◌⟨◌⟩ : tree → tree → tree
  A ⟨ a ⟩ = at A a

  -- the operators

  abbrev pub i0 : tree
  i0 = make op.I0 []

  abbrev pub i1 : tree
  i1 = make op.I1 []

  abbrev pub neg : tree → tree
  neg r = make op.Neg (r ∷ [])

  abbrev pub min : tree → tree → tree
  min r s = make op.Min (r ∷ s ∷ [])

  abbrev pub f0 : tree
  f0 = make op.F0 []

  -- `(r=0)` and `(r=1)`
  abbrev pub eq0 : tree → tree
  eq0 r = make op.Eq0 (r ∷ [])

  abbrev pub eq1 : tree → tree
  eq1 r = make op.Eq1 (r ∷ [])

  abbrev pub join : tree → tree → tree
  join p q = make op.Join (p ∷ q ∷ [])

  -- `all i.p`
  abbrev pub all : tree → tree
  all p = make op.All (p ∷ [])

  abbrev pub universe : tree
  universe = make op.U []

  abbrev pub pi : tree → tree → tree
  pi A B = make op.Pi (A ∷ B ∷ [])

  abbrev pub lam : tree → tree → tree
  lam A b = make op.Lam (A ∷ b ∷ [])

  abbrev pub app : tree → tree → tree
  app f a = make op.App (f ∷ a ∷ [])

  abbrev pub sig : tree → tree → tree
  sig A B = make op.Sig (A ∷ B ∷ [])

  abbrev pub pair : tree → tree → tree
  pair a b = make op.Pair (a ∷ b ∷ [])

  abbrev pub fst : tree → tree
  fst c = make op.Fst (c ∷ [])

  abbrev pub snd : tree → tree
  snd c = make op.Snd (c ∷ [])

  abbrev pub pathp : tree → tree → tree → tree
  pathp A u v = make op.PathP (A ∷ u ∷ v ∷ [])

  abbrev pub plam : tree → tree
  plam b = make op.PLam (b ∷ [])

  abbrev pub papp : tree → tree → tree
  papp c r = make op.PApp (c ∷ r ∷ [])

  abbrev pub nat : tree
  nat = make op.Nat []

  abbrev pub zero : tree
  zero = make op.Zero []

  abbrev pub suc : tree → tree
  suc n = make op.Suc (n ∷ [])

  abbrev pub natrec : tree → tree → tree → tree → tree
  natrec P a b n = make op.NatRec (P ∷ a ∷ b ∷ n ∷ [])

  abbrev pub sys : tree → tree → tree → tree → tree
  sys p q a b = make op.Sys (p ∷ q ∷ a ∷ b ∷ [])

  abbrev pub empty : tree
  empty = make op.Empty []

  -- `comp i.A p i.b a`
  abbrev pub comp : tree → tree → tree → tree → tree
  comp A p b a = make op.Comp (A ∷ p ∷ b ∷ a ∷ [])

  abbrev pub glue_type : tree → tree → tree → tree → tree
  glue_type A p T w = make op.GlueType (A ∷ p ∷ T ∷ w ∷ [])

  abbrev pub glue : tree → tree → tree → tree
  glue p c a = make op.Glue (p ∷ c ∷ a ∷ [])

  abbrev pub unglue : tree → tree → tree → tree → tree
  unglue p T w b = make op.Unglue (p ∷ T ∷ w ∷ b ∷ [])

  -- `(x : nat) -> P{x} -> P{suc x}`, the type of a step of a recursion; under x, `P{x}` is P
  abbrev pub motive_step : tree → tree
  motive_step P = pi nat (pi P (apply P (push (shift_by 2) (suc (var 1)))))

  -- The trees of the Kan operations, as in the paper by Cohen et al., sections 4, 5 and 6. A line
  -- is a tree over one more name. `stability/specs/Named` has each of these trees with bound names.

  -- the line along a formula r over its name
  abbrev pub along : tree → tree → tree
  along A r = apply A (push up r)

  -- a line, or a tree over one more variable, weakened by an entry that stands before its own
  abbrev pub aside : subst
  aside = push (shift_by 2) (var 0)

  abbrev pub beside : tree → tree
  beside A = apply A aside

  abbrev pub twice : tree → tree
  twice A = weakened (weakened A)

  abbrev pub side : tree → tree → Side tree
  side p t = record { face = p; body = t }

  -- the face on which some side stands
  abbrev pub cover : List (Side tree) → tree
  cover [] = f0
  cover (s ∷ S) = join s.face (cover S)

  -- the system of the sides
  abbrev pub body : List (Side tree) → tree
  body [] = empty
  body (s ∷ S) = sys s.face (cover S) s.body (body S)

  -- faces weakened to the line over which the bodies stand
  abbrev pub over_name : List (Side tree) → List (Side tree)
  over_name [] = []
  over_name (s ∷ S) = side (weakened s.face) s.body ∷ over_name S

  -- composition with sides: each face over the context, each body a line
  abbrev pub comp_of : tree → List (Side tree) → tree → tree
  comp_of A S a = comp A (cover S) (body (over_name S)) a

  -- from a at r = 0 to the composition at r = 1
  abbrev pub fill : tree → tree → tree → tree → tree → tree
  fill A p b a r =
      let m = min (weakened r) (var 0) in
      comp_of (along A m) (side p (along b m) ∷ side (eq0 r) (weakened a) ∷ []) a

  -- filling with sides
  abbrev pub fill_of : tree → List (Side tree) → tree → tree → tree
  fill_of A S a r = fill A (cover S) (body (over_name S)) a r

  -- filling that ends in y at r = 1
  abbrev pub back : tree → tree → tree → tree
  back A y r = fill (along A (neg (var 0))) f0 empty y (neg r)

  abbrev pub is_contr : tree → tree
  is_contr A = sig A (pi (weakened A) (pathp (weakened (twice A)) (var 1) (var 0)))

  abbrev pub fiber : tree → tree → tree → tree → tree
  fiber T A f y = sig T (pathp (twice A) (weakened y) (app (weakened f) (var 0)))

  abbrev pub is_equiv : tree → tree → tree → tree
  is_equiv T A f = pi A (is_contr (fiber (weakened T) (weakened A) (weakened f) (var 0)))

  abbrev pub equiv : tree → tree → tree
  equiv T A = sig (pi T (weakened A)) (is_equiv (weakened T) (weakened A) (var 0))

  -- an element of A, which c contracts, that is b on p
  abbrev pub contr : tree → tree → tree → tree → tree
  contr A c p b = comp (weakened A) p (papp (weakened (app (snd c) b)) (var 0)) (fst c)

  -- an element of the fiber of the equivalence w at a, which is z on p
  abbrev pub ext : tree → tree → tree → tree → tree → tree → tree
  ext T A w p z a = contr (fiber T A (fst w) a) (app (snd w) a) p z

  -- a path from the composition of the images to the image of the composition
  abbrev pub pres : tree → tree → tree → tree → tree → tree → tree
  pres T A f p t t0 =
      let v = fill (beside T) (weakened p) (beside t) (weakened t0) (var 0) in
      plam
      (comp
      (beside A)
      (join (weakened p) (eq1 (var 0)))
      (beside (app f v))
      (weakened (app (at f i0) t0)))

  -- The right sides of the rules of composition, over lines A, b and, where they occur, q, T, w, u
  -- and v.

  abbrev pub comp_pi : tree → tree → tree → tree → tree → tree
  comp_pi A B p b a =
      let v = back (beside (beside A)) (var 1) (var 0) in
      let v0 = back (beside A) (var 0) i0 in
      lam
      (at A i1)
      (comp
      (apply B (push aside v))
      (weakened p)
      (app (beside b) v)
      (app (weakened a) v0))

  abbrev pub comp_sig : tree → tree → tree → tree → tree → tree
  comp_sig A B p b a =
      let x = fill (beside A) (weakened p) (beside (fst b)) (weakened (fst a)) (var 0) in
      pair (comp A p (fst b) (fst a)) (comp (at B x) p (snd b) (snd a))

  -- A stands over the name of the line, then that of the path
  abbrev pub comp_path : tree → tree → tree → tree → tree → tree → tree
  comp_path A u v p b a =
      plam
      (comp_of
      (apply A (push aside (var 1)))
      (side (weakened p) (papp (beside b) (var 1))
      ∷ side (eq0 (var 0)) (beside u)
      ∷ side (eq1 (var 0)) (beside v)
      ∷ [])
      (papp (weakened a) (var 0)))

  -- Composition at a Glue type: the base k, composed of what is unglued;
  abbrev pub glue_base : tree → tree → tree → tree → tree → tree → tree → tree
  glue_base A q T w p b a =
      let g0 = unglue (at q i0) (at T i0) (at w i0) a in
      comp A p (unglue q T w b) g0

  -- what an element of the fiber at k is where q holds all along, and on p;
  abbrev pub glue_sides : tree → tree → tree → tree → tree → tree → tree → tree → List (Side tree)
  glue_sides A q T w p b a k =
      side (all q) (pair (comp T p b a) (pres T A (fst w) p b a))
      ∷ side p (pair (at b i1) (plam (weakened k)))
      ∷ []

  -- that element E;
  abbrev pub glue_fiber : tree → tree → tree → tree → tree → tree → tree → tree → tree
  glue_fiber A q T w p b a k =
      let S = glue_sides A q T w p b a k in
      ext (at T i1) (at A i1) (at w i1) (cover S) (body S) k

  -- and what is glued of it.
  abbrev pub glue_end : tree → tree → tree → tree → tree → tree → tree → tree → tree
  glue_end A q T w p b k E =
      let g = unglue q T w b in
      glue
      (at q i1)
      (fst E)
      (comp_of
      (weakened (at A i1))
      (side (at q i1) (papp (weakened (snd E)) (var 0)) ∷ side p (weakened (at g i1)) ∷ [])
      k)

  abbrev pub glue_from : tree → tree → tree → tree → tree → tree → tree → tree → tree
  glue_from A q T w p b a k = glue_end A q T w p b k (glue_fiber A q T w p b a k)

  abbrev pub comp_glue : tree → tree → tree → tree → tree → tree → tree → tree
  comp_glue A q T w p b a = glue_from A q T w p b a (glue_base A q T w p b a)

  -- The equivalence between the ends of a line E of types. In it g is `eqv_v E y i0`, and o is
  -- `eqv_o E y z k`.

  abbrev pub eqv_u : tree → tree → tree → tree
  eqv_u E x r = fill E f0 empty x r

  abbrev pub eqv_v : tree → tree → tree → tree
  eqv_v E y r = back E y r

  abbrev pub eqv_m : tree → tree → tree → tree → tree → tree
  eqv_m E y g j r =
      fill_of
      E
      (side (eq0 j) (eqv_v (beside E) (weakened y) (var 0))
      ∷ side (eq1 j) (eqv_u (beside E) (weakened g) (var 0))
      ∷ [])
      g
      r

  abbrev pub eqv_n : tree → tree → tree → tree → tree → tree → tree
  eqv_n E y x c j r =
      fill_of
      (along E (neg (var 0)))
      (side (eq0 j) (eqv_v (beside E) (weakened y) (neg (var 0)))
      ∷ side (eq1 j) (eqv_u (beside E) (weakened x) (neg (var 0)))
      ∷ [])
      (papp c j)
      (neg r)

  abbrev pub eqv_o : tree → tree → tree → tree → tree
  eqv_o E y z k = eqv_n E y (fst z) (snd z) k i0

  -- the centre at y
  abbrev pub eqv_centre : tree → tree → tree → tree
  eqv_centre E y g = pair g (plam (eqv_m (beside E) (weakened y) (weakened g) (var 0) i1))

  abbrev pub eqv_square : tree → tree → tree → tree → tree → tree → tree → tree
  eqv_square E y g z j k o =
      comp_of
      E
      (side (eq0 k) (eqv_m (beside E) (weakened y) (weakened g) (weakened j) (var 0))
      ∷ side (eq1 k)
      (eqv_n (beside E) (weakened y) (weakened (fst z)) (weakened (snd z)) (weakened j) (var 0))
      ∷ side (eq0 j) (eqv_v (beside E) (weakened y) (var 0))
      ∷ side (eq1 j) (eqv_u (beside E) (weakened o) (var 0))
      ∷ [])
      (eqv_o E y z (min j k))

  -- the contraction at z and k
  abbrev pub eqv_contraction : tree → tree → tree → tree → tree → tree → tree
  eqv_contraction E y g z k o =
      pair
      o
      (plam
      (eqv_square
      (beside E)
      (weakened y)
      (weakened g)
      (weakened z)
      (var 0)
      (weakened k)
      (weakened o)))

  abbrev pub eqv_path : tree → tree → tree → tree → tree
  eqv_path E y g z =
      let E' = beside E in
      let y' = weakened y in
      let z' = weakened z in
      plam (eqv_contraction E' y' (weakened g) z' (var 0) (eqv_o E' y' z' (var 0)))

  -- centre and contractions at y, for the map f
  abbrev pub eqv_fiber : tree → tree → tree → tree → tree
  eqv_fiber E f y g =
      pair
      (eqv_centre E y g)
      (lam
      (fiber (at E i0) (at E i1) f y)
      (eqv_path (beside E) (weakened y) (weakened g) (var 0)))

  abbrev pub eqv_from : tree → tree → tree
  eqv_from E f =
      pair
      f
      (lam (at E i1)
      (eqv_fiber (beside E) (weakened f) (var 0) (eqv_v (beside E) (var 0) i0)))

  abbrev pub eqv : tree → tree
  eqv E = eqv_from E (lam (at E i0) (comp (beside E) f0 empty (var 0)))

  abbrev pub comp_u : tree → tree → tree → tree
  comp_u p b a = glue_type a p (at b i1) (eqv (along b (neg (var 0))))

  -- Written by tools/write_rules.py from here on.

  -- What rules of types of a type and a family over it share; F forms the type.

  abbrev pub former_ty : (tree → tree → tree) → Over (kinds_of (Pi PiTy))
  former_ty F = λ G A B. G ⊢ A ∷ G ∙ A ⊢ B ∷ [] ⟹ G ⊢ F A B

  abbrev pub former_u : (tree → tree → tree) → Over (kinds_of (Pi PiU))
  former_u F = λ G A B. G ⊢ A ∶ universe ∷ G ∙ A ⊢ B ∶ universe ∷ [] ⟹ G ⊢ F A B ∶ universe

  abbrev pub former_tycong : (tree → tree → tree) → Over (kinds_of (Pi PiTyCong))
  former_tycong F = λ G A C B D. G ⊢ A ≐ C ∷ G ∙ A ⊢ B ≐ D ∷ [] ⟹ G ⊢ F A B ≐ F C D

  abbrev pub former_ucong : (tree → tree → tree) → Over (kinds_of (Pi PiUCong))
  former_ucong F = λ G A C B D.
      G ⊢ A ≐ C ∶ universe ∷ G ∙ A ⊢ B ≐ D ∶ universe ∷ [] ⟹ G ⊢ F A B ≐ F C D ∶ universe

  -- The rules that conclude a context or a substitution.

  abbrev pub context_rule : (name : ContextRule) → Over (kinds_of (Contexts name))
  context_rule CtxNil = [] ⟹ Ctx nil
  context_rule CtxVar = λ G A. G ⊢ A ∷ [] ⟹ Ctx (G ∙ A)
  context_rule CtxName = λ G. Ctx G ∷ [] ⟹ Ctx (G ∙I)
  context_rule CtxFace = λ G p. Ctx G ∷ [] ⟹ Ctx (G ∣ p) when IsFace G p ∷ []
  context_rule SubId = λ G. Ctx G ∷ [] ⟹ id from G to G
  context_rule SubWk = λ H d G A. d from H to G ∷ H ⊢ A ∷ [] ⟹ then d up from H ∙ A to G
  context_rule SubWkName = λ H d G. d from H to G ∷ [] ⟹ then d up from H ∙I to G
  context_rule SubWkFace = λ H d G p. d from H to G ∷ [] ⟹ d from H ∣ p to G when IsFace H p ∷ []
  context_rule SubVar = λ H d G A a.
      d from H to G ∷ G ⊢ A ∷ H ⊢ a ∶ A ⟦ d ⟧ ∷ [] ⟹ push d a from H to G ∙ A
  context_rule SubForm = λ H d G r.
      d from H to G ∷ [] ⟹ push d r from H to G ∙I when IsFormula H r ∷ []
  context_rule SubFace = λ H d G p.
      d from H to G ∷ [] ⟹ d from H to G ∣ p when IsFace G p ∷ Holds H (p ⟦ d ⟧) ∷ []
  context_rule SubComp = λ K e H d G. e from K to H ∷ d from H to G ∷ [] ⟹ then d e from K to G

  -- The rules that apply a substitution, and that of the variable.

  abbrev pub instance_rule : (name : InstanceRule) → Over (kinds_of (Instances name))
  instance_rule TySub = λ H d G A. d from H to G ∷ G ⊢ A ∷ [] ⟹ H ⊢ A ⟦ d ⟧
  instance_rule TyEqSub = λ H d G A B. d from H to G ∷ G ⊢ A ≐ B ∷ [] ⟹ H ⊢ A ⟦ d ⟧ ≐ B ⟦ d ⟧
  instance_rule TmSub = λ H d G a A. d from H to G ∷ G ⊢ a ∶ A ∷ [] ⟹ H ⊢ a ⟦ d ⟧ ∶ A ⟦ d ⟧
  instance_rule TmEqSub = λ H d G a b A.
      d from H to G ∷ G ⊢ a ≐ b ∶ A ∷ [] ⟹ H ⊢ a ⟦ d ⟧ ≐ b ⟦ d ⟧ ∶ A ⟦ d ⟧
  instance_rule TyCong = λ H d G A a b B.
      d from H to G ∷ G ∙ A ⊢ B ∷ H ⊢ a ≐ b ∶ A ⟦ d ⟧ ∷ [] ⟹ H ⊢ B ⟦ push d a ⟧ ≐ B ⟦ push d b ⟧
  instance_rule TmCong = λ H d G A a b c B.
      d from H to G ∷ G ∙ A ⊢ c ∶ B ∷ H ⊢ a ≐ b ∶ A ⟦ d ⟧ ∷ []
      ⟹ H ⊢ c ⟦ push d a ⟧ ≐ c ⟦ push d b ⟧ ∶ B ⟦ push d a ⟧
  instance_rule TyInt = λ H d e G B.
      d from H to G ∷ e from H to G ∷ G ⊢ B ∷ [] ⟹ H ⊢ B ⟦ d ⟧ ≐ B ⟦ e ⟧ when Alike H d e ∷ []
  instance_rule TmInt = λ H d e G c B.
      d from H to G ∷ e from H to G ∷ G ⊢ c ∶ B ∷ []
      ⟹ H ⊢ c ⟦ d ⟧ ≐ c ⟦ e ⟧ ∶ B ⟦ d ⟧ when Alike H d e ∷ []
  instance_rule TmVar = λ G A. G ⊢ A ∷ [] ⟹ G ∙ A ⊢ var 0 ∶ weakened A

  -- The rules of equality: an equivalence, kept by conversion, and decided on faces that cover all.

  abbrev pub equality_rule : (name : EqualityRule) → Over (kinds_of (Equality name))
  equality_rule TyEqRefl = λ G A. G ⊢ A ∷ [] ⟹ G ⊢ A ≐ A
  equality_rule TyEqSym = λ G A B. G ⊢ A ≐ B ∷ [] ⟹ G ⊢ B ≐ A
  equality_rule TyEqTrans = λ G A B C. G ⊢ A ≐ B ∷ G ⊢ B ≐ C ∷ [] ⟹ G ⊢ A ≐ C
  equality_rule TmEqRefl = λ G a A. G ⊢ a ∶ A ∷ [] ⟹ G ⊢ a ≐ a ∶ A
  equality_rule TmEqSym = λ G a b A. G ⊢ a ≐ b ∶ A ∷ [] ⟹ G ⊢ b ≐ a ∶ A
  equality_rule TmEqTrans = λ G a b c A. G ⊢ a ≐ b ∶ A ∷ G ⊢ b ≐ c ∶ A ∷ [] ⟹ G ⊢ a ≐ c ∶ A
  equality_rule TmConv = λ G a A B. G ⊢ a ∶ A ∷ G ⊢ A ≐ B ∷ [] ⟹ G ⊢ a ∶ B
  equality_rule TmEqConv = λ G a b A B. G ⊢ a ≐ b ∶ A ∷ G ⊢ A ≐ B ∷ [] ⟹ G ⊢ a ≐ b ∶ B
  equality_rule TyEqCover = λ G p q A B.
      G ⊢ A ∷ G ⊢ B ∷ G ∣ p ⊢ A ≐ B ∷ G ∣ q ⊢ A ≐ B ∷ []
      ⟹ G ⊢ A ≐ B when IsFace G p ∷ IsFace G q ∷ Holds G (join p q) ∷ []
  equality_rule TmEqCover = λ G p q a b A.
      G ⊢ a ∶ A ∷ G ⊢ b ∶ A ∷ G ∣ p ⊢ a ≐ b ∶ A ∷ G ∣ q ⊢ a ≐ b ∶ A ∷ []
      ⟹ G ⊢ a ≐ b ∶ A when IsFace G p ∷ IsFace G q ∷ Holds G (join p q) ∷ []
  equality_rule TyEqAbsurd = λ G A B. G ⊢ A ∷ G ⊢ B ∷ [] ⟹ G ⊢ A ≐ B when Holds G f0 ∷ []
  equality_rule TmEqAbsurd = λ G a b A.
      G ⊢ a ∶ A ∷ G ⊢ b ∶ A ∷ [] ⟹ G ⊢ a ≐ b ∶ A when Holds G f0 ∷ []

  -- The rules of the universe.

  abbrev pub universe_rule : (name : UniverseRule) → Over (kinds_of (Universe name))
  universe_rule TyUniv = λ G. Ctx G ∷ [] ⟹ G ⊢ universe
  universe_rule TyU = λ G A. G ⊢ A ∶ universe ∷ [] ⟹ G ⊢ A
  universe_rule TyEqU = λ G A B. G ⊢ A ≐ B ∶ universe ∷ [] ⟹ G ⊢ A ≐ B

  -- The rules of functions.

  abbrev pub pi_rule : (name : PiRule) → Over (kinds_of (Pi name))
  pi_rule PiTy = former_ty pi
  pi_rule PiU = former_u pi
  pi_rule PiTyCong = former_tycong pi
  pi_rule PiUCong = former_ucong pi
  pi_rule Lam = λ G A b B. G ⊢ A ∷ G ∙ A ⊢ b ∶ B ∷ [] ⟹ G ⊢ lam A b ∶ pi A B
  pi_rule App = λ G f a A B. G ⊢ f ∶ pi A B ∷ G ⊢ a ∶ A ∷ [] ⟹ G ⊢ app f a ∶ B ⟨ a ⟩
  pi_rule AppCong = λ G f g a b A B.
      G ⊢ f ≐ g ∶ pi A B ∷ G ⊢ a ≐ b ∶ A ∷ [] ⟹ G ⊢ app f a ≐ app g b ∶ B ⟨ a ⟩
  pi_rule PiBeta = λ G A b a B.
      G ∙ A ⊢ b ∶ B ∷ G ⊢ a ∶ A ∷ [] ⟹ G ⊢ app (lam A b) a ≐ b ⟨ a ⟩ ∶ B ⟨ a ⟩
  pi_rule PiEta = λ G f g A B.
      G ⊢ f ∶ pi A B ∷ G ⊢ g ∶ pi A B
      ∷ G ∙ A ⊢ app (weakened f) (var 0) ≐ app (weakened g) (var 0) ∶ B ∷ []
      ⟹ G ⊢ f ≐ g ∶ pi A B

  -- The rules of pairs.

  abbrev pub pair_wants : context → tree → tree → tree → tree → List (JudgementOf L)
  pair_wants G a b A B = G ∙ A ⊢ B ∷ G ⊢ a ∶ A ∷ G ⊢ b ∶ B ⟨ a ⟩ ∷ []

  abbrev pub sigma_rule : (name : SigmaRule) → Over (kinds_of (Sigma name))
  sigma_rule SigTy = former_ty sig
  sigma_rule SigU = former_u sig
  sigma_rule SigTyCong = former_tycong sig
  sigma_rule SigUCong = former_ucong sig
  sigma_rule Pair = λ G a b A B. pair_wants G a b A B ⟹ G ⊢ pair a b ∶ sig A B
  sigma_rule Fst = λ G c A B. G ⊢ c ∶ sig A B ∷ [] ⟹ G ⊢ fst c ∶ A
  sigma_rule Snd = λ G c A B. G ⊢ c ∶ sig A B ∷ [] ⟹ G ⊢ snd c ∶ B ⟨ fst c ⟩
  sigma_rule FstCong = λ G c k A B. G ⊢ c ≐ k ∶ sig A B ∷ [] ⟹ G ⊢ fst c ≐ fst k ∶ A
  sigma_rule SndCong = λ G c k A B. G ⊢ c ≐ k ∶ sig A B ∷ [] ⟹ G ⊢ snd c ≐ snd k ∶ B ⟨ fst c ⟩
  sigma_rule SigBeta1 = λ G a b A B. pair_wants G a b A B ⟹ G ⊢ fst (pair a b) ≐ a ∶ A
  sigma_rule SigBeta2 = λ G a b A B. pair_wants G a b A B ⟹ G ⊢ snd (pair a b) ≐ b ∶ B ⟨ a ⟩
  sigma_rule SigEta = λ G c k A B.
      G ⊢ c ∶ sig A B ∷ G ⊢ k ∶ sig A B ∷ G ⊢ fst c ≐ fst k ∶ A ∷ G ⊢ snd c ≐ snd k ∶ B ⟨ fst c ⟩
      ∷ []
      ⟹ G ⊢ c ≐ k ∶ sig A B

  -- The rules of paths.

  abbrev pub path_rule : (name : PathRule) → Over (kinds_of (Paths name))
  path_rule PathTy = λ G A u v.
      G ∙I ⊢ A ∷ G ⊢ u ∶ A ⟨ i0 ⟩ ∷ G ⊢ v ∶ A ⟨ i1 ⟩ ∷ [] ⟹ G ⊢ pathp A u v
  path_rule PathU = λ G A u v.
      G ∙I ⊢ A ∶ universe ∷ G ⊢ u ∶ A ⟨ i0 ⟩ ∷ G ⊢ v ∶ A ⟨ i1 ⟩ ∷ [] ⟹ G ⊢ pathp A u v ∶ universe
  path_rule PathTyCong = λ G A B u x v y.
      G ∙I ⊢ A ≐ B ∷ G ⊢ u ≐ x ∶ A ⟨ i0 ⟩ ∷ G ⊢ v ≐ y ∶ A ⟨ i1 ⟩ ∷ []
      ⟹ G ⊢ pathp A u v ≐ pathp B x y
  path_rule PathUCong = λ G A B u x v y.
      G ∙I ⊢ A ≐ B ∶ universe ∷ G ⊢ u ≐ x ∶ A ⟨ i0 ⟩ ∷ G ⊢ v ≐ y ∶ A ⟨ i1 ⟩ ∷ []
      ⟹ G ⊢ pathp A u v ≐ pathp B x y ∶ universe
  path_rule PLam = λ G A b u v.
      G ∙I ⊢ b ∶ A ∷ G ⊢ b ⟨ i0 ⟩ ≐ u ∶ A ⟨ i0 ⟩ ∷ G ⊢ b ⟨ i1 ⟩ ≐ v ∶ A ⟨ i1 ⟩ ∷ []
      ⟹ G ⊢ plam b ∶ pathp A u v
  path_rule PApp = λ G c r A u v.
      G ⊢ c ∶ pathp A u v ∷ [] ⟹ G ⊢ papp c r ∶ A ⟨ r ⟩ when IsFormula G r ∷ []
  path_rule PAppCong = λ G c k r A u v.
      G ⊢ c ≐ k ∶ pathp A u v ∷ [] ⟹ G ⊢ papp c r ≐ papp k r ∶ A ⟨ r ⟩ when IsFormula G r ∷ []
  path_rule PathLeft = λ G c A u v. G ⊢ c ∶ pathp A u v ∷ [] ⟹ G ⊢ papp c i0 ≐ u ∶ A ⟨ i0 ⟩
  path_rule PathRight = λ G c A u v. G ⊢ c ∶ pathp A u v ∷ [] ⟹ G ⊢ papp c i1 ≐ v ∶ A ⟨ i1 ⟩
  path_rule PathBeta = λ G A b r.
      G ∙I ⊢ b ∶ A ∷ [] ⟹ G ⊢ papp (plam b) r ≐ b ⟨ r ⟩ ∶ A ⟨ r ⟩ when IsFormula G r ∷ []
  path_rule PathEta = λ G c k A u v.
      G ⊢ c ∶ pathp A u v ∷ G ⊢ k ∶ pathp A u v
      ∷ G ∙I ⊢ papp (weakened c) (var 0) ≐ papp (weakened k) (var 0) ∶ A ∷ []
      ⟹ G ⊢ c ≐ k ∶ pathp A u v

  -- The rules of the natural numbers.

  abbrev pub natrec_wants : context → tree → tree → tree → tree → List (JudgementOf L)
  natrec_wants G P a b n =
      G ∙ nat ⊢ P ∷ G ⊢ a ∶ P ⟨ zero ⟩ ∷ G ⊢ b ∶ motive_step P ∷ G ⊢ n ∶ nat ∷ []

  abbrev pub nat_rule : (name : NatRule) → Over (kinds_of (Naturals name))
  nat_rule NatU = λ G. Ctx G ∷ [] ⟹ G ⊢ nat ∶ universe
  nat_rule Zero = λ G. Ctx G ∷ [] ⟹ G ⊢ zero ∶ nat
  nat_rule Suc = λ G n. G ⊢ n ∶ nat ∷ [] ⟹ G ⊢ suc n ∶ nat
  nat_rule SucCong = λ G n m. G ⊢ n ≐ m ∶ nat ∷ [] ⟹ G ⊢ suc n ≐ suc m ∶ nat
  nat_rule NatRec = λ G P a b n. natrec_wants G P a b n ⟹ G ⊢ natrec P a b n ∶ P ⟨ n ⟩
  nat_rule NatRecCong = λ G P Q a c b k n m.
      G ∙ nat ⊢ P ≐ Q ∷ G ⊢ a ≐ c ∶ P ⟨ zero ⟩ ∷ G ⊢ b ≐ k ∶ motive_step P ∷ G ⊢ n ≐ m ∶ nat ∷ []
      ⟹ G ⊢ natrec P a b n ≐ natrec Q c k m ∶ P ⟨ n ⟩
  nat_rule NatRecZero = λ G P a b.
      G ∙ nat ⊢ P ∷ G ⊢ a ∶ P ⟨ zero ⟩ ∷ G ⊢ b ∶ motive_step P ∷ []
      ⟹ G ⊢ natrec P a b zero ≐ a ∶ P ⟨ zero ⟩
  nat_rule NatRecSuc = λ G P a b n.
      natrec_wants G P a b n
      ⟹ G ⊢ natrec P a b (suc n) ≐ app (app b n) (natrec P a b n) ∶ P ⟨ suc n ⟩

  -- The rules of systems.

  abbrev pub sys_ty_wants : context → tree → tree → tree → tree → List (JudgementOf L)
  sys_ty_wants G p q A B = G ∣ p ⊢ A ∷ G ∣ q ⊢ B ∷ G ∣ p ∣ q ⊢ A ≐ B ∷ []

  abbrev pub sys_tm_wants : context → tree → tree → tree → tree → tree → List (JudgementOf L)
  sys_tm_wants G p q a b A = G ⊢ A ∷ G ∣ p ⊢ a ∶ A ∷ G ∣ q ⊢ b ∶ A ∷ G ∣ p ∣ q ⊢ a ≐ b ∶ A ∷ []

  abbrev pub system_rule : (name : SystemRule) → Over (kinds_of (Systems name))
  system_rule SysTy = λ G p q A B.
      sys_ty_wants G p q A B
      ⟹ G ⊢ sys p q A B when IsFace G p ∷ IsFace G q ∷ Holds G (join p q) ∷ []
  system_rule SysTm = λ G p q a b A.
      sys_tm_wants G p q a b A
      ⟹ G ⊢ sys p q a b ∶ A when IsFace G p ∷ IsFace G q ∷ Holds G (join p q) ∷ []
  system_rule SysTyLeft = λ G p q A B.
      sys_ty_wants G p q A B
      ⟹ G ∣ p ⊢ sys p q A B ≐ A when IsFace G p ∷ IsFace G q ∷ Holds G (join p q) ∷ []
  system_rule SysTyRight = λ G p q A B.
      sys_ty_wants G p q A B
      ⟹ G ∣ q ⊢ sys p q A B ≐ B when IsFace G p ∷ IsFace G q ∷ Holds G (join p q) ∷ []
  system_rule SysLeft = λ G p q a b A.
      sys_tm_wants G p q a b A
      ⟹ G ∣ p ⊢ sys p q a b ≐ a ∶ A when IsFace G p ∷ IsFace G q ∷ Holds G (join p q) ∷ []
  system_rule SysRight = λ G p q a b A.
      sys_tm_wants G p q a b A
      ⟹ G ∣ q ⊢ sys p q a b ≐ b ∶ A when IsFace G p ∷ IsFace G q ∷ Holds G (join p q) ∷ []
  system_rule EmptyTy = λ G. Ctx G ∷ [] ⟹ G ⊢ empty when Holds G f0 ∷ []
  system_rule EmptyTm = λ G A. G ⊢ A ∷ [] ⟹ G ⊢ empty ∶ A when Holds G f0 ∷ []

  -- The rules of composition.

  abbrev pub comp_wants : context → tree → tree → tree → tree → List (JudgementOf L)
  comp_wants G A p b a =
      G ∙I ⊢ A ∷ G ∣ p ∙I ⊢ b ∶ A ∷ G ⊢ a ∶ A ⟨ i0 ⟩ ∷ G ∣ p ⊢ a ≐ b ⟨ i0 ⟩ ∶ A ⟨ i0 ⟩ ∷ []

  abbrev pub comp_rule : (name : CompRule) → Over (kinds_of (Composition name))
  comp_rule Comp = λ G A p b a.
      comp_wants G A p b a ⟹ G ⊢ comp A p b a ∶ A ⟨ i1 ⟩ when IsFace G p ∷ []
  comp_rule CompFace = λ G A p b a.
      comp_wants G A p b a ⟹ G ∣ p ⊢ comp A p b a ≐ b ⟨ i1 ⟩ ∶ A ⟨ i1 ⟩ when IsFace G p ∷ []
  comp_rule CompCong = λ G A B p q b c a k.
      G ∙I ⊢ A ≐ B ∷ G ∣ p ∙I ⊢ b ∶ A ∷ G ⊢ a ∶ A ⟨ i0 ⟩ ∷ G ∣ p ⊢ a ≐ b ⟨ i0 ⟩ ∶ A ⟨ i0 ⟩
      ∷ G ∣ p ∙I ⊢ b ≐ c ∶ A ∷ G ⊢ a ≐ k ∶ A ⟨ i0 ⟩ ∷ []
      ⟹ G ⊢ comp A p b a ≐ comp B q c k ∶ A ⟨ i1 ⟩ when IsFace G p ∷ IsFace G q ∷ Holds (G ∣ p) q ∷
      Holds (G ∣ q) p ∷ []
  comp_rule CompPi = λ G A B p b a.
      G ∙I ⊢ A ∷ G ∙I ∙ A ⊢ B ∷ G ∣ p ∙I ⊢ b ∶ pi A B ∷ G ⊢ a ∶ (pi A B) ⟨ i0 ⟩
      ∷ G ∣ p ⊢ a ≐ b ⟨ i0 ⟩ ∶ (pi A B) ⟨ i0 ⟩ ∷ []
      ⟹ G ⊢ comp (pi A B) p b a ≐ comp_pi A B p b a ∶ (pi A B) ⟨ i1 ⟩ when IsFace G p ∷ []
  comp_rule CompSig = λ G A B p b a.
      G ∙I ⊢ A ∷ G ∙I ∙ A ⊢ B ∷ G ∣ p ∙I ⊢ b ∶ sig A B ∷ G ⊢ a ∶ (sig A B) ⟨ i0 ⟩
      ∷ G ∣ p ⊢ a ≐ b ⟨ i0 ⟩ ∶ (sig A B) ⟨ i0 ⟩ ∷ []
      ⟹ G ⊢ comp (sig A B) p b a ≐ comp_sig A B p b a ∶ (sig A B) ⟨ i1 ⟩ when IsFace G p ∷ []
  comp_rule CompPath = λ G A u v p b a.
      G ∙I ∙I ⊢ A ∷ G ∙I ⊢ u ∶ A ⟨ i0 ⟩ ∷ G ∙I ⊢ v ∶ A ⟨ i1 ⟩ ∷ G ∣ p ∙I ⊢ b ∶ pathp A u v
      ∷ G ⊢ a ∶ (pathp A u v) ⟨ i0 ⟩ ∷ G ∣ p ⊢ a ≐ b ⟨ i0 ⟩ ∶ (pathp A u v) ⟨ i0 ⟩ ∷ []
      ⟹ G ⊢ comp (pathp A u v) p b a ≐ comp_path A u v p b a ∶ (pathp A u v) ⟨ i1 ⟩ when IsFace G p
      ∷ []
  comp_rule CompZero = λ G p.
      Ctx G ∷ [] ⟹ G ⊢ comp nat p zero zero ≐ zero ∶ nat when IsFace G p ∷ []
  comp_rule CompSuc = λ G p n m.
      G ∣ p ∙I ⊢ n ∶ nat ∷ G ⊢ m ∶ nat ∷ G ∣ p ⊢ m ≐ n ⟨ i0 ⟩ ∶ nat ∷ []
      ⟹ G ⊢ comp nat p (suc n) (suc m) ≐ suc (comp nat p n m) ∶ nat when IsFace G p ∷ []
  comp_rule CompGlue = λ G A q T w p b a.
      G ∙I ⊢ A ∷ G ∙I ∣ q ⊢ T ∷ G ∙I ∣ q ⊢ w ∶ equiv T A ∷ G ∣ p ∙I ⊢ b ∶ glue_type A q T w
      ∷ G ⊢ a ∶ (glue_type A q T w) ⟨ i0 ⟩ ∷ G ∣ p ⊢ a ≐ b ⟨ i0 ⟩ ∶ (glue_type A q T w) ⟨ i0 ⟩ ∷ []
      ⟹ G ⊢ comp (glue_type A q T w) p b a ≐ comp_glue A q T w p b a ∶ (glue_type A q T w) ⟨ i1 ⟩
      when IsFace G p ∷ IsFace (G ∙I) q ∷ []
  comp_rule CompU = λ G p b a.
      G ∣ p ∙I ⊢ b ∶ universe ∷ G ⊢ a ∶ universe ∷ G ∣ p ⊢ a ≐ b ⟨ i0 ⟩ ∶ universe ∷ []
      ⟹ G ⊢ comp universe p b a ≐ comp_u p b a ∶ universe when IsFace G p ∷ []

  -- The rules of Glue.

  abbrev pub glue_ty_wants : context → tree → tree → tree → tree → List (JudgementOf L)
  glue_ty_wants G A p T w = G ⊢ A ∷ G ∣ p ⊢ T ∷ G ∣ p ⊢ w ∶ equiv T A ∷ []

  abbrev pub glue_u_wants : context → tree → tree → tree → tree → List (JudgementOf L)
  glue_u_wants G A p T w = G ⊢ A ∶ universe ∷ G ∣ p ⊢ T ∶ universe ∷ G ∣ p ⊢ w ∶ equiv T A ∷ []

  abbrev pub glue_wants : context → tree → tree → tree → tree → tree → tree → List (JudgementOf L)
  glue_wants G A p T w c a =
      G ⊢ A ∷ G ∣ p ⊢ T ∷ G ∣ p ⊢ w ∶ equiv T A ∷ G ∣ p ⊢ c ∶ T ∷ G ⊢ a ∶ A
      ∷ G ∣ p ⊢ app (fst w) c ≐ a ∶ A ∷ []

  abbrev pub unglue_wants : context → tree → tree → tree → tree → tree → List (JudgementOf L)
  unglue_wants G A p T w b =
      G ⊢ A ∷ G ∣ p ⊢ T ∷ G ∣ p ⊢ w ∶ equiv T A ∷ G ⊢ b ∶ glue_type A p T w ∷ []

  abbrev pub glue_rule : (name : GlueRule) → Over (kinds_of (Gluing name))
  glue_rule GlueTy = λ G A p T w.
      glue_ty_wants G A p T w ⟹ G ⊢ glue_type A p T w when IsFace G p ∷ []
  glue_rule GlueU = λ G A p T w.
      glue_u_wants G A p T w ⟹ G ⊢ glue_type A p T w ∶ universe when IsFace G p ∷ []
  glue_rule GlueTyFace = λ G A p T w.
      glue_ty_wants G A p T w ⟹ G ∣ p ⊢ glue_type A p T w ≐ T when IsFace G p ∷ []
  glue_rule GlueUFace = λ G A p T w.
      glue_u_wants G A p T w ⟹ G ∣ p ⊢ glue_type A p T w ≐ T ∶ universe when IsFace G p ∷ []
  glue_rule GlueTyCong = λ G A B p q T V w z.
      G ⊢ A ≐ B ∷ G ∣ p ⊢ T ≐ V ∷ G ∣ p ⊢ w ≐ z ∶ equiv T A ∷ []
      ⟹ G ⊢ glue_type A p T w ≐ glue_type B q V z when IsFace G p ∷ IsFace G q ∷ Holds (G ∣ p) q ∷
      Holds (G ∣ q) p ∷ []
  glue_rule GlueUCong = λ G A B p q T V w z.
      G ⊢ A ≐ B ∶ universe ∷ G ∣ p ⊢ T ≐ V ∶ universe ∷ G ∣ p ⊢ w ≐ z ∶ equiv T A ∷ []
      ⟹ G ⊢ glue_type A p T w ≐ glue_type B q V z ∶ universe when IsFace G p ∷ IsFace G q ∷ Holds (G
      ∣ p) q ∷ Holds (G ∣ q) p ∷ []
  glue_rule Glue = λ G A p T w c a.
      glue_wants G A p T w c a ⟹ G ⊢ glue p c a ∶ glue_type A p T w when IsFace G p ∷ []
  glue_rule GlueFace = λ G A p T w c a.
      glue_wants G A p T w c a ⟹ G ∣ p ⊢ glue p c a ≐ c ∶ T when IsFace G p ∷ []
  glue_rule Unglue = λ G A p T w b.
      unglue_wants G A p T w b ⟹ G ⊢ unglue p T w b ∶ A when IsFace G p ∷ []
  glue_rule UnglueFace = λ G A p T w b.
      unglue_wants G A p T w b ⟹ G ∣ p ⊢ unglue p T w b ≐ app (fst w) b ∶ A when IsFace G p ∷ []
  glue_rule UnglueCong = λ G A p T w q V z b c.
      G ⊢ A ∷ G ∣ p ⊢ T ∷ G ∣ p ⊢ w ∶ equiv T A ∷ G ∣ p ⊢ T ≐ V ∷ G ∣ p ⊢ w ≐ z ∶ equiv T A
      ∷ G ⊢ b ≐ c ∶ glue_type A p T w ∷ []
      ⟹ G ⊢ unglue p T w b ≐ unglue q V z c ∶ A when IsFace G p ∷ IsFace G q ∷ Holds (G ∣ p) q ∷
      Holds (G ∣ q) p ∷ []
  glue_rule GlueBeta = λ G A p T w c a.
      glue_wants G A p T w c a ⟹ G ⊢ unglue p T w (glue p c a) ≐ a ∶ A when IsFace G p ∷ []
  glue_rule GlueEta = λ G A p T w b c.
      G ⊢ A ∷ G ∣ p ⊢ T ∷ G ∣ p ⊢ w ∶ equiv T A ∷ G ⊢ b ∶ glue_type A p T w
      ∷ G ⊢ c ∶ glue_type A p T w ∷ G ⊢ unglue p T w b ≐ unglue p T w c ∶ A ∷ G ∣ p ⊢ b ≐ c ∶ T ∷ []
      ⟹ G ⊢ b ≐ c ∶ glue_type A p T w when IsFace G p ∷ []

  abbrev pub rule : (name : RuleName) → Over (kinds_of name)
  rule (Contexts name) = context_rule name
  rule (Instances name) = instance_rule name
  rule (Equality name) = equality_rule name
  rule (Universe name) = universe_rule name
  rule (Pi name) = pi_rule name
  rule (Sigma name) = sigma_rule name
  rule (Paths name) = path_rule name
  rule (Naturals name) = nat_rule name
  rule (Systems name) = system_rule name
  rule (Composition name) = comp_rule name
  rule (Gluing name) = glue_rule name
