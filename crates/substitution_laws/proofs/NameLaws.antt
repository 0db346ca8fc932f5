-- Each rule of substitutions takes names to formulas.
use Rattle.std.proofs.Common.{◌≡◌, ◌+◌, ℕ, zero, suc, List, [], ◌∷◌, true, refl, sym, ◌∙◌, ap, subst, arith, rules}
use Rattle.std.specs.List.{All, Contains}
use Rattle.std.proofs.lemmas.List.Elements.{All-head}
use Rattle.theory.specs.declared.rule.RuleName.{RuleName}
use Rattle.theory.specs.declared.rule.RuleName.TheVariants.{Contexts, Instances, Equality, Universe, Pi, Sigma, Paths, Naturals, Systems, Composition, Gluing}
use Rattle.theory.specs.declared.rule.ContextRule.TheVariants.{CtxNil, CtxVar, CtxName, CtxFace, SubId, SubWk, SubWkName, SubWkFace, SubVar, SubForm, SubFace, SubComp}
use Rattle.theory.specs.declared.rule.InstanceRule.TheVariants.{TySub}
use Rattle.theory.specs.declared.rule.EqualityRule.TheVariants.{TyEqRefl}
use Rattle.theory.specs.declared.rule.UniverseRule.TheVariants.{TyUniv}
use Rattle.theory.specs.declared.rule.PiRule.TheVariants.{PiTy}
use Rattle.theory.specs.declared.rule.SigmaRule.TheVariants.{SigTy}
use Rattle.theory.specs.declared.rule.PathRule.TheVariants.{PathTy}
use Rattle.theory.specs.declared.rule.NatRule.TheVariants.{NatU}
use Rattle.theory.specs.declared.rule.SystemRule.TheVariants.{SysTy}
use Rattle.theory.specs.declared.rule.CompRule.TheVariants.{Comp}
use Rattle.theory.specs.declared.rule.GlueRule.TheVariants.{GlueTy}
use Rattle.trees.specs.Trees.{Tree, Subst, then, push, up, id}
use Rattle.trees.specs.Judgements.{Context, WithVar, WithName, WithFace, Judgement, TreeRule}
use Rattle.trees.specs.Language.{Ty, Tm, Sb, IsFormula}
use Rattle.substitution.specs.Action.{look}
use Rattle.substitution.proofs.ThenLaws.{apply-id, look-shift_by, look-then}
use Rattle.conditions.specs.Sides.{SideHolds, is_formula, is_name}
use Rattle.pattern_sides.proofs.UnderLaws.{TakesNames, formula-under}
use Rattle.rules.specs.Rules.{AtAll}
use Rattle.rules.proofs.TableLaws.{at_these}
use Rattle.derivation.specs.Derivations.{Provable, by_rule}

-- a substitution takes the names of where it is to to formulas of where it is from
abbrev pub Takes : Context → Subst → Context → Type 0
Takes H d G = TakesNames (is_name G) d H

abbrev TakesIn : Judgement → Type 0
TakesIn (Sb H d G) = Takes H d G
TakesIn _ = Unit {0}

-- where the side conditions hold and the premises do so, the conclusion does
abbrev Keeps : TreeRule → Type 0
Keeps r = All SideHolds r.sides → ((K : Judgement) → Contains r.wants K → TakesIn K) → TakesIn r.gives

first_of : (J : Judgement) (Js : List Judgement) → Contains (J ∷ Js) J
first_of J Js = (0, omega arith, refl)

second_of : (I J : Judgement) (Js : List Judgement) → Contains (I ∷ J ∷ Js) J
second_of I J Js = (1, omega arith, refl)

-- the substitutions that keep an index, or take it past one entry

kept : (K : Context) (k : ℕ) → is_name K k ≡ true → is_formula K (look id k) ≡ true
kept K k h = ap (is_formula K) (look-shift_by 0 k) ∙ ap (is_name K) (let e : k + 0 ≡ k = omega arith in e) ∙ h

raised : (K : Context) (k : ℕ) → is_name K (suc k) ≡ true → is_formula K (look up k) ≡ true
raised K k h = ap (is_formula K) (look-shift_by 1 k) ∙ ap (is_name K) (let e : k + 1 ≡ suc k = omega arith in e) ∙ h

nothing_done : (G : Context) → Takes G id G
nothing_done G = record { takes = kept G }

past_variable : (H : Context) (A : Tree) → Takes (WithVar H A) up H
past_variable H A = record { takes = λ k h. raised (WithVar H A) k h }

past_name : (H : Context) → Takes (WithName H) up H
past_name H = record { takes = λ k h. raised (WithName H) k h }

past_face : (H : Context) (p : Tree) → Takes (WithFace H p) id H
past_face H p = record { takes = λ k h. kept (WithFace H p) k h }

composed : (K : Context) (e : Subst) (H : Context) (d : Subst) (G : Context) → Takes K e H → Takes H d G → Takes K (then d e) G
composed K e H d G he hd = record { takes = λ k h. ap (is_formula K) (look-then d e k) ∙ formula-under H K e he (look d k) (hd.takes k h) }

on_more : (H : Context) (p : Tree) (d : Subst) (G : Context) → Takes H d G → Takes (WithFace H p) d G
on_more H p d G h = record {
  takes = λ k is. ap (is_formula (WithFace H p)) (sym (apply-id (look d k))) ∙ formula-under H (WithFace H p) id (past_face H p) (look d k) (h.takes k is);
}

pushed_tree : (H : Context) (d : Subst) (G : Context) (A a : Tree) → Takes H d G → Takes H (push d a) (WithVar G A)
pushed_tree H d G A a t = record { takes = takes_at }
  where
    takes_at : (k : ℕ) → is_name (WithVar G A) k ≡ true → is_formula H (look (push d a) k) ≡ true
    takes_at zero h = absurd (cc h)
    takes_at (suc k) h = t.takes k h

pushed_formula : (H : Context) (d : Subst) (G : Context) (r : Tree) → is_formula H r ≡ true → Takes H d G → Takes H (push d r) (WithName G)
pushed_formula H d G r is t = record { takes = takes_at }
  where
    takes_at : (k : ℕ) → is_name (WithName G) k ≡ true → is_formula H (look (push d r) k) ≡ true
    takes_at zero h = is
    takes_at (suc k) h = t.takes k h

on_face : (H : Context) (d : Subst) (G : Context) (p : Tree) → Takes H d G → Takes H d (WithFace G p)
on_face H d G p t = record { takes = λ k h. t.takes k h }

keeps : (name : RuleName) → AtAll name (λ xs r. Keeps r)
keeps (Contexts CtxNil) = λ s h. tt
keeps (Contexts CtxVar) = λ G A s h. tt
keeps (Contexts CtxName) = λ G s h. tt
keeps (Contexts CtxFace) = λ G p s h. tt
keeps (Contexts SubId) = λ G s h. nothing_done G
keeps (Contexts SubWk) = λ H d G A s h. composed (WithVar H A) up H d G (past_variable H A) (h (Sb H d G) (first_of (Sb H d G) (Ty H A ∷ [])))
keeps (Contexts SubWkName) = λ H d G s h. composed (WithName H) up H d G (past_name H) (h (Sb H d G) (first_of (Sb H d G) []))
keeps (Contexts SubWkFace) = λ H d G p s h. on_more H p d G (h (Sb H d G) (first_of (Sb H d G) []))
keeps (Contexts SubVar) = λ H d G A a s h. pushed_tree H d G A a (h (Sb H d G) (first_of (Sb H d G) (Ty G A ∷ Tm H a _ ∷ [])))
keeps (Contexts SubForm) = λ H d G r s h. pushed_formula H d G r (All-head SideHolds (IsFormula H r) [] s) (h (Sb H d G) (first_of (Sb H d G) []))
keeps (Contexts SubFace) = λ H d G p s h. on_face H d G p (h (Sb H d G) (first_of (Sb H d G) []))
keeps (Contexts SubComp) = λ K e H d G s h.
    composed K e H d G (h (Sb K e H) (first_of (Sb K e H) (Sb H d G ∷ []))) (h (Sb H d G) (second_of (Sb K e H) (Sb H d G) []))
keeps (Instances TySub) = search rules
keeps (Instances _) = search rules
keeps (Equality TyEqRefl) = search rules
keeps (Equality _) = search rules
keeps (Universe TyUniv) = search rules
keeps (Universe _) = search rules
keeps (Pi PiTy) = search rules
keeps (Pi _) = search rules
keeps (Sigma SigTy) = search rules
keeps (Sigma _) = search rules
keeps (Paths PathTy) = search rules
keeps (Paths _) = search rules
keeps (Naturals NatU) = search rules
keeps (Naturals _) = search rules
keeps (Systems SysTy) = search rules
keeps (Systems _) = search rules
keeps (Composition Comp) = search rules
keeps (Composition _) = search rules
keeps (Gluing GlueTy) = search rules
keeps (Gluing _) = search rules

takes_in : (J : Judgement) → Provable J → TakesIn J
takes_in _ (by_rule name xs premises J i proofs) =
    let above : (K : Judgement) → Contains i.rule.wants K → TakesIn K = λ K c. takes_in K (proofs K (subst (λ ps. Contains ps K) (sym i.wants) c)) in
    subst TakesIn (sym i.gives) (at_these name (λ ys r. Keeps r) (keeps name) xs i.rule i.is i.sides above)

pub takes : (H : Context) (d : Subst) (G : Context) → Provable (Sb H d G) → Takes H d G
takes H d G p = takes_in (Sb H d G) p
