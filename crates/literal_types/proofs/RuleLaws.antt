-- What the rules of substitutions say.
use Rattle.std.proofs.Common.{◌≡◌, ◌<◌, ℕ, List, [], ◌∷◌, length, refl, ◌∙◌, ap, subst, arith, rules, Some}
use Rattle.std.specs.Prelude.{slice_get}
use Rattle.std.specs.List.{All}
use Rattle.std.proofs.lemmas.List.Elements.{All-head}
use Rattle.trees.specs.Things.{Thing, ATree, ASubst, AContext, meanings}
use Rattle.trees.specs.Trees.{Tree, Subst, apply, push, then, id, up}
use Rattle.trees.specs.Judgements.{Context, WithVar, WithName, WithFace, Judgement, TreeRule}
use Rattle.trees.specs.Language.{Ctx, Ty, TyEq, Tm, TmEq, Sb, IsFace}
use Rattle.conditions.specs.Sides.{SideHolds}
use Rattle.substitution.proofs.ThenLaws.{apply-then}
use Rattle.theory.specs.declared.rule.RuleName.{RuleName}
use Rattle.theory.specs.declared.rule.RuleName.TheVariants.{Contexts, Instances, Equality, Universe, Pi, Sigma, Paths, Naturals, Systems, Composition, Gluing}
use Rattle.theory.specs.declared.rule.ContextRule.{ContextRule}
use Rattle.theory.specs.declared.rule.ContextRule.TheVariants.{CtxNil, CtxVar, CtxName, CtxFace, SubId, SubWk, SubWkName, SubWkFace, SubVar, SubForm, SubFace, SubComp}
use Rattle.theory.specs.declared.rule.InstanceRule.TheVariants.{TySub}
use Rattle.theory.specs.declared.rule.EqualityRule.TheVariants.{TyEqRefl}
use Rattle.theory.specs.declared.rule.UniverseRule.TheVariants.{TyUniv}
use Rattle.theory.specs.declared.rule.PiRule.TheVariants.{PiTy}
use Rattle.theory.specs.declared.rule.SigmaRule.TheVariants.{SigTy}
use Rattle.theory.specs.declared.rule.PathRule.TheVariants.{PathTy}
use Rattle.theory.specs.declared.rule.NatRule.TheVariants.{NatU}
use Rattle.theory.specs.declared.rule.SystemRule.TheVariants.{SysTy}
use Rattle.theory.specs.declared.rule.CompRule.TheVariants.{Comp}
use Rattle.theory.specs.declared.rule.GlueRule.TheVariants.{GlueTy}
use Rattle.rules.specs.Rules.{AtAll}
use Rattle.book.specs.Contents.{Contents}
use Rattle.book.specs.Right.{IsUse}
use Rattle.book.specs.Shown.{book_means, book_concludes}
use Rattle.literal_types.specs.declared.entries.Entry.TheVariants as entry
use Rattle.literal_types.specs.declared.substitutions.Substitution.TheVariants as sub
use Rattle.literal_types.specs.Substitutions.{Unfolds}
use Rattle.literal_types.proofs.StepLaws.{said_at, step_of, counted}

-- Q holds of a judgement that is a substitution
abbrev OfSub : Judgement → (Context → Subst → Context → Type 0) → Type 0
OfSub (Sb M d K) Q = Q M d K
OfSub _ Q = Unit {0}

of_sub : (J : Judgement) (Q : Context → Subst → Context → Type 0) (M : Context) (d : Subst) (K : Context) → OfSub J Q → Sb M d K ≡ J → Q M d K
of_sub (Sb N e L) Q M d K h is =
    let m : N ≡ M = cc in
    let s : e ≡ d = cc in
    let k : L ≡ K = cc in
    subst (λ x. Q x d K) m (subst (λ x. Q N x K) s (subst (λ x. Q N e x) k h))
of_sub (Ctx G) Q M d K h is = absurd (cc is)
of_sub (Ty G A) Q M d K h is = absurd (cc is)
of_sub (TyEq G A B) Q M d K h is = absurd (cc is)
of_sub (Tm G a A) Q M d K h is = absurd (cc is)
of_sub (TmEq G a b A) Q M d K h is = absurd (cc is)

-- the rule, at these parts, concludes d from M to K
abbrev RuleSays : ContextRule → List Thing → TreeRule → Context → Subst → Context → Type 0
RuleSays SubId xs r M d K = (r.wants ≡ Ctx M ∷ []) × (M ≡ K) × (d ≡ id)
RuleSays SubWk xs r M d K =
    (L : Context) × (e : Subst) × (A : Tree) × (r.wants ≡ Sb L e K ∷ Ty L A ∷ []) × (M ≡ WithVar L A) × (d ≡ then e up)
RuleSays SubWkName xs r M d K =
    (L : Context) × (e : Subst) × (r.wants ≡ Sb L e K ∷ []) × (M ≡ WithName L) × (d ≡ then e up)
RuleSays SubWkFace xs r M d K =
    (L : Context) × (p : Tree) × (xs ≡ AContext L ∷ ASubst d ∷ AContext K ∷ ATree p ∷ []) × (r.wants ≡ Sb L d K ∷ []) × (r.sides ≡ IsFace L p ∷ []) × (M ≡ WithFace L p)
RuleSays SubVar xs r M d K =
    (G : Context) × (e : Subst) × (A a : Tree) × (r.wants ≡ Sb M e G ∷ Ty G A ∷ Tm M a (apply A e) ∷ []) × (d ≡ push e a) × (K ≡ WithVar G A)
RuleSays SubForm xs r M d K =
    (G : Context) × (e : Subst) × (t : Tree) × (r.wants ≡ Sb M e G ∷ []) × (d ≡ push e t) × (K ≡ WithName G)
RuleSays SubFace xs r M d K =
    (G : Context) × (p : Tree) × (r.wants ≡ Sb M d G ∷ []) × (K ≡ WithFace G p)
RuleSays SubComp xs r M d K =
    (L : Context) × (e f : Subst) × (r.wants ≡ Sb M e L ∷ Sb L f K ∷ []) × (d ≡ then f e)
RuleSays _ xs r M d K = ⊥

rules_say : (name : ContextRule) → AtAll (Contexts name) (λ xs r. OfSub r.gives (RuleSays name xs r))
rules_say CtxNil = tt
rules_say CtxVar = λ G A. tt
rules_say CtxName = λ G. tt
rules_say CtxFace = λ G p. tt
rules_say SubId = λ G. (refl, refl, refl)
rules_say SubWk = λ H d G A. (H, d, A, refl, refl, refl)
rules_say SubWkName = λ H d G. (H, d, refl, refl, refl)
rules_say SubWkFace = λ H d G p. (H, p, refl, refl, refl, refl)
rules_say SubVar = λ H d G A a. (G, d, A, a, refl, refl, refl)
rules_say SubForm = λ H d G r. (G, d, r, refl, refl, refl)
rules_say SubFace = λ H d G p. (G, p, refl, refl)
rules_say SubComp = λ K e H d G. (H, e, d, refl, refl)

-- no other rule concludes a substitution
abbrev pub IsContexts : RuleName → Type 0
IsContexts (Contexts name) = Unit {0}
IsContexts _ = ⊥

no_others : (name : RuleName) → (IsContexts name → ⊥) → AtAll name (λ xs r. OfSub r.gives (λ M d K. ⊥))
no_others (Contexts name) none = absurd (none tt)
no_others (Instances TySub) none = search rules
no_others (Instances _) none = search rules
no_others (Equality TyEqRefl) none = search rules
no_others (Equality _) none = search rules
no_others (Universe TyUniv) none = search rules
no_others (Universe _) none = search rules
no_others (Pi PiTy) none = search rules
no_others (Pi _) none = search rules
no_others (Sigma SigTy) none = search rules
no_others (Sigma _) none = search rules
no_others (Paths PathTy) none = search rules
no_others (Paths _) none = search rules
no_others (Naturals NatU) none = search rules
no_others (Naturals _) none = search rules
no_others (Systems SysTy) none = search rules
no_others (Systems _) none = search rules
no_others (Composition Comp) none = search rules
no_others (Composition _) none = search rules
no_others (Gluing GlueTy) none = search rules
no_others (Gluing _) none = search rules

pub by_contexts : (b : Contents) (name : RuleName) (parts premises : List ℕ) (M : Context) (d : Subst) (K : Context) → IsUse (book_means b) (book_concludes b) name parts premises (Sb M d K) → (IsContexts name → ⊥) → ⊥
by_contexts b name parts premises M d K used none =
    let s = step_of (λ xs r. OfSub r.gives (λ M d K. ⊥)) b name parts premises (Sb M d K) (no_others name none) used in
    of_sub s.rule.gives (λ M d K. ⊥) M d K s.holds s.gives

-- what stands above such a node
pub record Above (name : ContextRule) (b : Contents) (parts premises : List ℕ) (M : Context) (d : Subst) (K : Context) : Type 0 where
  pub things : List Thing
  pub rule : TreeRule
  pub parts_are : meanings (book_means b) parts ≡ Some things
  pub wants : meanings (book_concludes b) premises ≡ Some rule.wants
  pub sides : All SideHolds rule.sides
  pub says : RuleSays name things rule M d K

pub above : (b : Contents) (rule : RuleName) (name v : ContextRule) (parts premises : List ℕ) (M : Context) (d : Subst) (K : Context) → rule ≡ Contexts name → name ≡ v → IsUse (book_means b) (book_concludes b) rule parts premises (Sb M d K) → Above v b parts premises M d K
above b rule name v parts premises M d K e f used =
    let u = subst (λ r. IsUse (book_means b) (book_concludes b) r parts premises (Sb M d K)) (e ∙ ap Contexts f) used in
    let s = step_of (λ xs r. OfSub r.gives (RuleSays v xs r)) b (Contexts v) parts premises (Sb M d K) (rules_say v) u in
    record {
      things = s.things;
      rule = s.rule;
      parts_are = s.parts_are;
      wants = s.wants;
      sides = s.sides;
      says = of_sub s.rule.gives (RuleSays v s.things s.rule) M d K s.holds s.gives;
    }

-- the first premise
pub one_above : (name : ContextRule) {b : Contents} {parts premises : List ℕ} {M : Context} {d : Subst} {K : Context} → Above name b parts premises M d K → 0 < length premises
one_above SubId {b} {parts} {premises} u = counted (book_concludes b) premises u.rule.wants (_ ∷ []) 0 u.wants u.says.0 (omega arith)
one_above SubWk {b} {parts} {premises} u = let (L, e, A, w, m, s) = u.says in counted (book_concludes b) premises u.rule.wants (_ ∷ _) 0 u.wants w (omega arith)
one_above SubWkName {b} {parts} {premises} u = let (L, e, w, m, s) = u.says in counted (book_concludes b) premises u.rule.wants (_ ∷ _) 0 u.wants w (omega arith)
one_above SubWkFace {b} {parts} {premises} u = let (L, p, x, w, f, m) = u.says in counted (book_concludes b) premises u.rule.wants (_ ∷ _) 0 u.wants w (omega arith)
one_above SubVar {b} {parts} {premises} u = let (G, e, A, a, w, s, k) = u.says in counted (book_concludes b) premises u.rule.wants (_ ∷ _) 0 u.wants w (omega arith)
one_above SubForm {b} {parts} {premises} u = let (G, e, t, w, s, k) = u.says in counted (book_concludes b) premises u.rule.wants (_ ∷ _) 0 u.wants w (omega arith)
one_above SubFace {b} {parts} {premises} u = let (G, p, w, k) = u.says in counted (book_concludes b) premises u.rule.wants (_ ∷ _) 0 u.wants w (omega arith)
one_above SubComp {b} {parts} {premises} u = let (L, e, f, w, s) = u.says in counted (book_concludes b) premises u.rule.wants (_ ∷ _) 0 u.wants w (omega arith)
one_above CtxNil u = absurd u.says
one_above CtxVar u = absurd u.says
one_above CtxName u = absurd u.says
one_above CtxFace u = absurd u.says

-- a rule that is none of contexts
pub no_contexts : (name : RuleName) → ((x : ContextRule) → name ≡ Contexts x → ⊥) → IsContexts name → ⊥
no_contexts (Contexts x) none is = none x refl
no_contexts (Instances x) none is = is
no_contexts (Equality x) none is = is
no_contexts (Universe x) none is = is
no_contexts (Pi x) none is = is
no_contexts (Sigma x) none is = is
no_contexts (Paths x) none is = is
no_contexts (Naturals x) none is = is
no_contexts (Systems x) none is = is
no_contexts (Composition x) none is = is
no_contexts (Gluing x) none is = is

-- the rules of substitutions are all
pub no_more : (name : ContextRule) {b : Contents} {parts premises : List ℕ} {M : Context} {d : Subst} {K : Context} → Above name b parts premises M d K → (name ≡ SubId → ⊥) → (name ≡ SubWk → ⊥) → (name ≡ SubWkName → ⊥) → (name ≡ SubWkFace → ⊥) → (name ≡ SubVar → ⊥) → (name ≡ SubForm → ⊥) → (name ≡ SubFace → ⊥) → (name ≡ SubComp → ⊥) → ⊥
no_more SubId u a b' c d' e f g h = a refl
no_more SubWk u a b' c d' e f g h = b' refl
no_more SubWkName u a b' c d' e f g h = c refl
no_more SubWkFace u a b' c d' e f g h = d' refl
no_more SubVar u a b' c d' e f g h = e refl
no_more SubForm u a b' c d' e f g h = f refl
no_more SubFace u a b' c d' e f g h = g refl
no_more SubComp u a b' c d' e f g h = h refl
no_more CtxNil u a b' c d' e f g h = u.says
no_more CtxVar u a b' c d' e f g h = u.says
no_more CtxName u a b' c d' e f g h = u.says
no_more CtxFace u a b' c d' e f g h = u.says

abbrev Named : List ℕ → ℕ → ℕ → Type 0
Named ks i k = slice_get ks i ≡ Some k

module _ {b : Contents} {parts premises : List ℕ} {M : Context} {d : Subst} {K : Context} where
  -- the further premises, and the face

  pub two_variable : Above SubWk b parts premises M d K → 1 < length premises
  two_variable u = let (L, e, A, w, m, s) = u.says in counted (book_concludes b) premises u.rule.wants (Sb L e K ∷ Ty L A ∷ []) 1 u.wants w (omega arith)

  pub three_pushed : Above SubVar b parts premises M d K → 2 < length premises
  three_pushed u = let (G, e, A, a, w, s, k) = u.says in counted (book_concludes b) premises u.rule.wants (Sb M e G ∷ Ty G A ∷ Tm M a (apply A e) ∷ []) 2 u.wants w (omega arith)

  pub two_composite : Above SubComp b parts premises M d K → 1 < length premises
  two_composite u = let (L, e, f, w, s) = u.says in counted (book_concludes b) premises u.rule.wants (Sb M e L ∷ Sb L f K ∷ []) 1 u.wants w (omega arith)

  pub four_parts : Above SubWkFace b parts premises M d K → 3 < length parts
  four_parts u = let (L, p, x, w, f, m) = u.says in counted (book_means b) parts u.things (AContext L ∷ ASubst d ∷ AContext K ∷ ATree p ∷ []) 3 u.parts_are x (omega arith)

  -- what the substitution is

  pub unfolds_identity : (k : ℕ) → Above SubId b parts premises M d K → Named premises 0 k → Unfolds b (sub.Identity (record { 0 = k })) M d K
  unfolds_identity k u at =
      let (w, m, s) = u.says in
      (m, s, said_at (book_concludes b) premises u.rule.wants 0 k (Ctx M) u.wants at (ap (λ xs. slice_get xs 0) w))

  pub unfolds_variable : (j k : ℕ) → Above SubWk b parts premises M d K → Named premises 0 j → Named premises 1 k → Unfolds b (sub.Past (record { 0 = j }) (entry.Variable (record { 0 = k }))) M d K
  unfolds_variable j k u first second =
      let (L, e, A, w, m, s) = u.says in (
        L,
        e,
        said_at (book_concludes b) premises u.rule.wants 0 j (Sb L e K) u.wants first (ap (λ xs. slice_get xs 0) w),
        (A, said_at (book_concludes b) premises u.rule.wants 1 k (Ty L A) u.wants second (ap (λ xs. slice_get xs 1) w), m),
        λ T. ap (apply T) s ∙ apply-then T e up,
      )

  pub unfolds_name : (k : ℕ) → Above SubWkName b parts premises M d K → Named premises 0 k → Unfolds b (sub.Past (record { 0 = k }) entry.Name) M d K
  unfolds_name k u at =
      let (L, e, w, m, s) = u.says in
      (L, e, said_at (book_concludes b) premises u.rule.wants 0 k (Sb L e K) u.wants at (ap (λ xs. slice_get xs 0) w), m, λ T. ap (apply T) s ∙ apply-then T e up)

  pub unfolds_face : (k row : ℕ) → Above SubWkFace b parts premises M d K → Named premises 0 k → Named parts 3 row → Unfolds b (sub.Past (record { 0 = k }) (entry.Face row)) M d K
  unfolds_face k row u at part =
      let (L, p, x, w, f, m) = u.says in (
        L,
        d,
        said_at (book_concludes b) premises u.rule.wants 0 k (Sb L d K) u.wants at (ap (λ xs. slice_get xs 0) w),
        (
          p,
          said_at (book_means b) parts u.things 3 row (ATree p) u.parts_are part (ap (λ xs. slice_get xs 3) x),
          All-head SideHolds (IsFace L p) [] (subst (All SideHolds) f u.sides),
          m,
        ),
        λ T. refl,
      )

  pub unfolds_pushed : (j k : ℕ) → Above SubVar b parts premises M d K → Named premises 0 j → Named premises 2 k → Unfolds b (sub.Pushed (record { 0 = j }) (record { 0 = k })) M d K
  unfolds_pushed j k u first third =
      let (G, e, A, a, w, s, t) = u.says in (
        G,
        e,
        A,
        a,
        said_at (book_concludes b) premises u.rule.wants 0 j (Sb M e G) u.wants first (ap (λ xs. slice_get xs 0) w),
        said_at (book_concludes b) premises u.rule.wants 2 k (Tm M a (apply A e)) u.wants third (ap (λ xs. slice_get xs 2) w),
        s,
        t,
      )

  pub unfolds_formula : (k : ℕ) → Above SubForm b parts premises M d K → Named premises 0 k → Unfolds b (sub.Formula (record { 0 = k })) M d K
  unfolds_formula k u at =
      let (G, e, t, w, s, m) = u.says in
      (G, e, t, said_at (book_concludes b) premises u.rule.wants 0 k (Sb M e G) u.wants at (ap (λ xs. slice_get xs 0) w), s, m)

  pub unfolds_on_face : (k : ℕ) → Above SubFace b parts premises M d K → Named premises 0 k → Unfolds b (sub.OnFace (record { 0 = k })) M d K
  unfolds_on_face k u at =
      let (G, p, w, m) = u.says in
      (G, p, said_at (book_concludes b) premises u.rule.wants 0 k (Sb M d G) u.wants at (ap (λ xs. slice_get xs 0) w), m)

  pub unfolds_composite : (j k : ℕ) → Above SubComp b parts premises M d K → Named premises 0 j → Named premises 1 k → Unfolds b (sub.Composite (record { 0 = j }) (record { 0 = k })) M d K
  unfolds_composite j k u first second =
      let (L, e, f, w, s) = u.says in (
        L,
        e,
        f,
        said_at (book_concludes b) premises u.rule.wants 0 j (Sb M e L) u.wants first (ap (λ xs. slice_get xs 0) w),
        said_at (book_concludes b) premises u.rule.wants 1 k (Sb L f K) u.wants second (ap (λ xs. slice_get xs 1) w),
        s,
      )
