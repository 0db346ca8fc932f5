-- Each rule of substitutions keeps the count.
use Rattle.std.proofs.Common.{◌≡◌, suc, List, [], ◌∷◌, refl, sym, subst, arith, rules}
use Rattle.std.specs.List.{Contains}
use Rattle.theory.specs.declared.rule.RuleName.{RuleName}
use Rattle.theory.specs.declared.rule.RuleName.TheVariants.{Contexts, Instances, Equality, Universe, Pi, Sigma, Paths, Naturals, Systems, Composition, Gluing}
use Rattle.theory.specs.declared.rule.ContextRule.TheVariants.{CtxNil, CtxVar, CtxName, CtxFace, SubId, SubWk, SubWkName, SubWkFace, SubVar, SubForm, SubFace, SubComp}
use Rattle.theory.specs.declared.rule.InstanceRule.TheVariants.{TySub}
use Rattle.theory.specs.declared.rule.EqualityRule.TheVariants.{TyEqRefl}
use Rattle.theory.specs.declared.rule.UniverseRule.TheVariants.{TyUniv}
use Rattle.theory.specs.declared.rule.PiRule.TheVariants.{PiTy}
use Rattle.theory.specs.declared.rule.SigmaRule.TheVariants.{SigTy}
use Rattle.theory.specs.declared.rule.PathRule.TheVariants.{PathTy}
use Rattle.theory.specs.declared.rule.NatRule.TheVariants.{NatU}
use Rattle.theory.specs.declared.rule.SystemRule.TheVariants.{SysTy}
use Rattle.theory.specs.declared.rule.CompRule.TheVariants.{Comp}
use Rattle.theory.specs.declared.rule.GlueRule.TheVariants.{GlueTy}
use Rattle.trees.specs.Trees.{Subst, then, up}
use Rattle.trees.specs.Judgements.{Context, WithVar, WithName, Judgement, TreeRule}
use Rattle.trees.specs.Language.{Ty, Tm, Sb}
use Rattle.substitution.proofs.ShiftBounds.{shift-then, count_of-then}
use Rattle.rules.specs.Rules.{AtAll}
use Rattle.rules.proofs.TableLaws.{at_these}
use Rattle.derivation.specs.Derivations.{Provable, by_rule}
use Rattle.substitution_laws.specs.Spans.{size_of, Spans}

-- of a judgement that is a substitution
abbrev SpansIn : Judgement → Type 0
SpansIn (Sb H d G) = Spans H d G
SpansIn _ = Unit {0}

-- where the premises do so, the conclusion does
abbrev Keeps : TreeRule → Type 0
Keeps r = ((K : Judgement) → Contains r.wants K → SpansIn K) → SpansIn r.gives

-- the first of some judgements, and the second
first_of : (J : Judgement) (Js : List Judgement) → Contains (J ∷ Js) J
first_of J Js = (0, omega arith, refl)

second_of : (I J : Judgement) (Js : List Judgement) → Contains (I ∷ J ∷ Js) J
second_of I J Js = (1, omega arith, refl)

past_one : (H : Context) (d : Subst) (G : Context) (K : Context) → size_of K ≡ suc (size_of H) → Spans H d G → Spans K (then d up) G
past_one H d G K more h =
    let s = shift-then d up in
    let c = count_of-then d up in
    let w = h.within in
    let e = h.count in
    record { within = omega (arith, s, w, more); count = omega (arith, s, c, w, e, more) }

composed : (K : Context) (e : Subst) (H : Context) (d : Subst) (G : Context) → Spans K e H → Spans H d G → Spans K (then d e) G
composed K e H d G he hd =
    let s = shift-then d e in
    let c = count_of-then d e in
    let w = hd.within in
    let x = he.within in
    let y = hd.count in
    let z = he.count in
    record { within = omega (arith, s, w, x, y, z); count = omega (arith, s, c, w, x, y, z) }

keeps : (name : RuleName) → AtAll name (λ xs r. Keeps r)
keeps (Contexts CtxNil) = λ h. tt
keeps (Contexts CtxVar) = λ G A h. tt
keeps (Contexts CtxName) = λ G h. tt
keeps (Contexts CtxFace) = λ G p h. tt
keeps (Contexts SubId) = λ G h. record { within = omega arith; count = omega arith }
keeps (Contexts SubWk) = λ H d G A h. past_one H d G (WithVar H A) refl (h (Sb H d G) (first_of (Sb H d G) (Ty H A ∷ [])))
keeps (Contexts SubWkName) = λ H d G h. past_one H d G (WithName H) refl (h (Sb H d G) (first_of (Sb H d G) []))
keeps (Contexts SubWkFace) = λ H d G p h. let i = h (Sb H d G) (first_of (Sb H d G) []) in record { within = i.within; count = i.count }
keeps (Contexts SubVar) = λ H d G A a h. let i = h (Sb H d G) (first_of (Sb H d G) (Ty G A ∷ Tm H a _ ∷ [])) in let e = i.count in record { within = i.within; count = omega (arith, e) }
keeps (Contexts SubForm) = λ H d G r h. let i = h (Sb H d G) (first_of (Sb H d G) []) in let e = i.count in record { within = i.within; count = omega (arith, e) }
keeps (Contexts SubFace) = λ H d G p h. let i = h (Sb H d G) (first_of (Sb H d G) []) in record { within = i.within; count = i.count }
keeps (Contexts SubComp) = λ K e H d G h.
    composed K e H d G (h (Sb K e H) (first_of (Sb K e H) (Sb H d G ∷ []))) (h (Sb H d G) (second_of (Sb K e H) (Sb H d G) []))
keeps (Instances TySub) = search rules
keeps (Instances _) = search rules
keeps (Equality TyEqRefl) = search rules
keeps (Equality _) = search rules
keeps (Universe TyUniv) = search rules
keeps (Universe _) = search rules
keeps (Pi PiTy) = search rules
keeps (Pi _) = search rules
keeps (Sigma SigTy) = search rules
keeps (Sigma _) = search rules
keeps (Paths PathTy) = search rules
keeps (Paths _) = search rules
keeps (Naturals NatU) = search rules
keeps (Naturals _) = search rules
keeps (Systems SysTy) = search rules
keeps (Systems _) = search rules
keeps (Composition Comp) = search rules
keeps (Composition _) = search rules
keeps (Gluing GlueTy) = search rules
keeps (Gluing _) = search rules

spans_in : (J : Judgement) → Provable J → SpansIn J
spans_in _ (by_rule name xs premises J i proofs) =
    let above : (K : Judgement) → Contains i.rule.wants K → SpansIn K = λ K c. spans_in K (proofs K (subst (λ ps. Contains ps K) (sym i.wants) c)) in
    subst SpansIn (sym i.gives) (at_these name (λ ys r. Keeps r) (keeps name) xs i.rule i.is above)

pub spans : (H : Context) (d : Subst) (G : Context) → Provable (Sb H d G) → Spans H d G
spans H d G p = spans_in (Sb H d G) p
