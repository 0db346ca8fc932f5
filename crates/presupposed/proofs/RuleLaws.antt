-- What holds of each rule: the shifts of its parts, the contexts that it makes, what stands behind its
-- conclusion.
use Rattle.std.proofs.Common.{◌≡◌, ◌≤◌, ◌^◌, nat_le, Bool, true, false, List, [], ◌∷◌, length, refl, sym, ◌∙◌, ap, subst, arith, rules, Some}
use Rattle.std.specs.List.{All, Contains}
use Rattle.std.proofs.lemmas.Bool.{leb-true}
use Rattle.std.proofs.lemmas.List.Elements.{All-nil, All-cons}
use Rattle.theory.specs.declared.rule.RuleName.{RuleName}
use Rattle.theory.specs.declared.rule.TheConstants.{RULES}
use Rattle.theory.specs.declared.rule.RuleName.TheVariants.{Contexts, Instances, Equality, Universe, Pi, Sigma, Paths, Naturals, Systems, Composition, Gluing}
use Rattle.theory.specs.declared.rule.ContextRule.TheVariants.{CtxNil, CtxVar, CtxName, CtxFace, SubId, SubWk, SubWkName, SubWkFace, SubVar, SubForm, SubFace, SubComp}
use Rattle.theory.specs.declared.rule.InstanceRule.TheVariants.{TySub, TyEqSub, TmSub, TmEqSub, TyCong, TmCong, TyInt, TmInt, TmVar}
use Rattle.theory.specs.declared.rule.EqualityRule.TheVariants.{TyEqRefl}
use Rattle.theory.specs.declared.rule.UniverseRule.TheVariants.{TyUniv}
use Rattle.theory.specs.declared.rule.PiRule.TheVariants.{PiTy}
use Rattle.theory.specs.declared.rule.SigmaRule.TheVariants.{SigTy}
use Rattle.theory.specs.declared.rule.PathRule.TheVariants.{PathTy}
use Rattle.theory.specs.declared.rule.NatRule.TheVariants.{NatU}
use Rattle.theory.specs.declared.rule.SystemRule.TheVariants.{SysTy}
use Rattle.theory.specs.declared.rule.CompRule.{CompRule}
use Rattle.theory.specs.declared.rule.CompRule.TheVariants.{Comp, CompPi, CompSig, CompPath, CompGlue, CompU}
use Rattle.theory.specs.declared.rule.GlueRule.TheVariants.{GlueTy}
use Rattle.theory.specs.RuleNames.{kinds_of, name_of}
use Rattle.theory.proofs.Names.{every_rule}
use Rattle.trees.specs.Trees.{Tree, apply}
use Rattle.trees.specs.Judgements.{Context, Nil, WithVar, WithName, WithFace, Judgement, TreeRule, trees}
use Rattle.trees.specs.Things.{Thing, ATree, ASubst, AContext}
use Rattle.trees.specs.Language.{Ctx, Ty, TyEq, Tm, TmEq, Sb}
use Rattle.typed_nodes.proofs.StandLaws.{AreShort}
use Rattle.rules.specs.Rules.{AtAll, rule_at}
use Rattle.rules.proofs.TableLaws.{at_these}
use Rattle.book.proofs.NodeLaws.{named-all}
use Rattle.patterns.specs.Patterns.{ContextPart, JudgementPattern}
use Rattle.patterns.specs.Values.{Parts, judgement_of}
use Rattle.recipes.specs.Made.{ShiftIsAtMost, greatest_part_shift}
use Rattle.recipes.specs.Statements.{pattern_of}
use Rattle.presuppositions.specs.declared.source.Label.{Label}
use Rattle.presuppositions.specs.declared.source.Label.TheVariants as label
use Rattle.presuppositions.specs.Behind.{behind}
use Rattle.presuppositions.specs.Entries.{is_unfolded}
use Rattle.kan_calls.specs.Unfoldings.{HasNoSubst}
use Rattle.kan_types.specs.Types.{IsOfTypes}
use Rattle.presupposed.specs.Parts.{IsInSight}

-- the shift of a substitution is short

abbrev pub IsShort : Judgement → Type 0
IsShort (Sb H d G) = d.shift ≤ 2 ^ 48
IsShort _ = Unit {0}

abbrev pub AllShort : List Judgement → Type 0
AllShort Js = (K : Judgement) → Contains Js K → IsShort K

shifts_fit : (xs : List Thing) → AreShort xs → All (ShiftIsAtMost greatest_part_shift) xs
shifts_fit [] h = All-nil (ShiftIsAtMost greatest_part_shift)
shifts_fit (ASubst d ∷ xs) h = All-cons (ShiftIsAtMost greatest_part_shift) (ASubst d) xs (let le = h.0 in omega (arith, le)) (shifts_fit xs h.1)
shifts_fit (ATree t ∷ xs) h = All-cons (ShiftIsAtMost greatest_part_shift) (ATree t) xs tt (shifts_fit xs h)
shifts_fit (AContext G ∷ xs) h = All-cons (ShiftIsAtMost greatest_part_shift) (AContext G) xs tt (shifts_fit xs h)

first_of : (J : Judgement) (Js : List Judgement) → Contains (J ∷ Js) J
first_of J Js = (0, omega arith, refl)

second_of : (I J : Judgement) (Js : List Judgement) → Contains (I ∷ J ∷ Js) J
second_of I J Js = (1, omega arith, refl)

-- a part that is a substitution is that of a premise
parts_short : (name : RuleName) → AtAll name (λ xs r. AllShort r.wants → AreShort xs)
parts_short (Contexts CtxNil) = λ h. tt
parts_short (Contexts CtxVar) = λ G A h. tt
parts_short (Contexts CtxName) = λ G h. tt
parts_short (Contexts CtxFace) = λ G p h. tt
parts_short (Contexts SubId) = λ G h. tt
parts_short (Contexts SubWk) = λ H d G A h. (h (Sb H d G) (first_of (Sb H d G) (Ty H A ∷ [])), tt)
parts_short (Contexts SubWkName) = λ H d G h. (h (Sb H d G) (first_of (Sb H d G) []), tt)
parts_short (Contexts SubWkFace) = λ H d G p h. (h (Sb H d G) (first_of (Sb H d G) []), tt)
parts_short (Contexts SubVar) = λ H d G A a h. (h (Sb H d G) (first_of (Sb H d G) (Ty G A ∷ Tm H a (apply A d) ∷ [])), tt)
parts_short (Contexts SubForm) = λ H d G r h. (h (Sb H d G) (first_of (Sb H d G) []), tt)
parts_short (Contexts SubFace) = λ H d G p h. (h (Sb H d G) (first_of (Sb H d G) []), tt)
parts_short (Contexts SubComp) = λ K e H d G h. (h (Sb K e H) (first_of (Sb K e H) (Sb H d G ∷ [])), (h (Sb H d G) (second_of (Sb K e H) (Sb H d G) []), tt))
parts_short (Instances TySub) = λ H d G A h. (h (Sb H d G) (first_of (Sb H d G) (Ty G A ∷ [])), tt)
parts_short (Instances TyEqSub) = λ H d G A B h. (h (Sb H d G) (first_of (Sb H d G) (TyEq G A B ∷ [])), tt)
parts_short (Instances TmSub) = λ H d G a A h. (h (Sb H d G) (first_of (Sb H d G) (Tm G a A ∷ [])), tt)
parts_short (Instances TmEqSub) = λ H d G a b A h. (h (Sb H d G) (first_of (Sb H d G) (TmEq G a b A ∷ [])), tt)
parts_short (Instances TyCong) = λ H d G A a b B h. (h (Sb H d G) (first_of (Sb H d G) (Ty (WithVar G A) B ∷ TmEq H a b (apply A d) ∷ [])), tt)
parts_short (Instances TmCong) = λ H d G A a b c B h. (h (Sb H d G) (first_of (Sb H d G) (Tm (WithVar G A) c B ∷ TmEq H a b (apply A d) ∷ [])), tt)
parts_short (Instances TyInt) = λ H d e G B h. (h (Sb H d G) (first_of (Sb H d G) (Sb H e G ∷ Ty G B ∷ [])), (h (Sb H e G) (second_of (Sb H d G) (Sb H e G) (Ty G B ∷ [])), tt))
parts_short (Instances TmInt) = λ H d e G c B h. (h (Sb H d G) (first_of (Sb H d G) (Sb H e G ∷ Tm G c B ∷ [])), (h (Sb H e G) (second_of (Sb H d G) (Sb H e G) (Tm G c B ∷ [])), tt))
parts_short (Instances TmVar) = λ G A h. tt
parts_short (Equality TyEqRefl) = search rules
parts_short (Equality _) = search rules
parts_short (Universe TyUniv) = search rules
parts_short (Universe _) = search rules
parts_short (Pi PiTy) = search rules
parts_short (Pi _) = search rules
parts_short (Sigma SigTy) = search rules
parts_short (Sigma _) = search rules
parts_short (Paths PathTy) = search rules
parts_short (Paths _) = search rules
parts_short (Naturals NatU) = search rules
parts_short (Naturals _) = search rules
parts_short (Systems SysTy) = search rules
parts_short (Systems _) = search rules
parts_short (Composition Comp) = search rules
parts_short (Composition _) = search rules
parts_short (Gluing GlueTy) = search rules
parts_short (Gluing _) = search rules

pub parts_fit : (name : RuleName) (xs : List Thing) (r : TreeRule) → rule_at name xs ≡ Some r → AllShort r.wants → All (ShiftIsAtMost greatest_part_shift) xs
parts_fit name xs r is h = shifts_fit xs (at_these name (λ ys s. AllShort s.wants → AreShort ys) (parts_short name) xs r is h)

-- the premise of the rule that makes a context

abbrev Opens : Judgement → List Judgement → Type 0
Opens (Ctx (WithVar G A)) wants = wants ≡ Ty G A ∷ []
Opens (Ctx (WithName G)) wants = wants ≡ Ctx G ∷ []
Opens (Ctx (WithFace G p)) wants = wants ≡ Ctx G ∷ []
Opens _ wants = Unit {0}

contexts_open : (name : RuleName) → AtAll name (λ xs r. Opens r.gives r.wants)
contexts_open (Contexts CtxNil) = tt
contexts_open (Contexts CtxVar) = λ G A. refl
contexts_open (Contexts CtxName) = λ G. refl
contexts_open (Contexts CtxFace) = λ G p. refl
contexts_open (Contexts _) = search rules
contexts_open (Instances TySub) = search rules
contexts_open (Instances _) = search rules
contexts_open (Equality TyEqRefl) = search rules
contexts_open (Equality _) = search rules
contexts_open (Universe TyUniv) = search rules
contexts_open (Universe _) = search rules
contexts_open (Pi PiTy) = search rules
contexts_open (Pi _) = search rules
contexts_open (Sigma SigTy) = search rules
contexts_open (Sigma _) = search rules
contexts_open (Paths PathTy) = search rules
contexts_open (Paths _) = search rules
contexts_open (Naturals NatU) = search rules
contexts_open (Naturals _) = search rules
contexts_open (Systems SysTy) = search rules
contexts_open (Systems _) = search rules
contexts_open (Composition Comp) = search rules
contexts_open (Composition _) = search rules
contexts_open (Gluing GlueTy) = search rules
contexts_open (Gluing _) = search rules

one_want : (l : Label) (G : Context) (J : Judgement) (wants : List Judgement) → Opens (Ctx G) wants → IsInSight l G → behind l (Ctx G) ≡ Some J → wants ≡ J ∷ []
one_want label.Type Nil J wants o s e = absurd (cc e)
one_want label.Type (WithVar G A) J wants o s e = let same : Ty G A ≡ J = cc in o ∙ ap (λ z. z ∷ []) same
one_want label.Type (WithName G) J wants o s e = absurd (cc e)
one_want label.Type (WithFace G p) J wants o s e = absurd (cc e)
one_want label.Context Nil J wants o s e = absurd (cc e)
one_want label.Context (WithVar G A) J wants o s e = absurd (cc s)
one_want label.Context (WithName G) J wants o s e = let same : Ctx G ≡ J = cc in o ∙ ap (λ z. z ∷ []) same
one_want label.Context (WithFace G p) J wants o s e = let same : Ctx G ≡ J = cc in o ∙ ap (λ z. z ∷ []) same
one_want _ G J wants o s e = absurd s

pub in_sight : (name : RuleName) (xs : List Thing) (r : TreeRule) (l : Label) (G : Context) (J : Judgement) → rule_at name xs ≡ Some r → Ctx G ≡ r.gives → IsInSight l G → behind l (Ctx G) ≡ Some J → r.wants ≡ J ∷ []
in_sight name xs r l G J is gives s e =
    let o = at_these name (λ ys t. Opens t.gives t.wants) (contexts_open name) xs r is in
    one_want l G J r.wants (subst (λ K. Opens K r.wants) (sym gives) o) s e

-- no rule concludes an unknown context

abbrev pub is_shown : JudgementPattern → Bool
is_shown (Ctx (ContextPart k)) = false
is_shown _ = true

abbrev gives_shown : RuleName → Bool
gives_shown rule = is_shown (pattern_of rule).gives

pub all_shown : (rule : RuleName) → is_shown (pattern_of rule).gives ≡ true
all_shown rule = named-all gives_shown RULES.now (name_of rule) rule (every_rule rule) refl

-- a rule has few parts

abbrev has_few : RuleName → Bool
has_few rule = nat_le (length (kinds_of rule)) 16

pub few_parts : (rule : RuleName) → length (kinds_of rule) ≤ 16
few_parts rule = leb-true (length (kinds_of rule)) 16 (named-all has_few RULES.now (name_of rule) rule (every_rule rule) refl)

-- a rule has few premises

abbrev wants_few : RuleName → Bool
wants_few rule = nat_le (length (pattern_of rule).wants) 16

pub few_wants : (rule : RuleName) → length (pattern_of rule).wants ≤ 16
few_wants rule = leb-true (length (pattern_of rule).wants) 16 (named-all wants_few RULES.now (name_of rule) rule (every_rule rule) refl)

-- what is unfolded is a right side

pub unfolded-right : (rule : RuleName) (l : Label) → is_unfolded rule l ≡ true → l ≡ label.Right
unfolded-right (Composition CompPi) label.Right e = refl
unfolded-right (Composition CompPi) _ e = absurd (cc e)
unfolded-right (Composition CompSig) label.Right e = refl
unfolded-right (Composition CompSig) _ e = absurd (cc e)
unfolded-right (Composition CompPath) label.Right e = refl
unfolded-right (Composition CompPath) _ e = absurd (cc e)
unfolded-right (Composition CompGlue) label.Right e = refl
unfolded-right (Composition CompGlue) _ e = absurd (cc e)
unfolded-right (Composition CompU) label.Right e = refl
unfolded-right (Composition CompU) _ e = absurd (cc e)
unfolded-right _ _ e = absurd (cc e)

-- it is of an equation of terms

abbrev is_of_terms : JudgementPattern → Bool
is_of_terms (TmEq G a c A) = true
is_of_terms _ = false

of_terms : (rule : RuleName) → is_unfolded rule label.Right ≡ true → is_of_terms (pattern_of rule).gives ≡ true
of_terms (Composition CompPi) e = refl
of_terms (Composition CompSig) e = refl
of_terms (Composition CompPath) e = refl
of_terms (Composition CompGlue) e = refl
of_terms (Composition CompU) e = refl
of_terms _ e = absurd (cc e)

equation_value : (v : Parts trees) (J : JudgementPattern) → is_of_terms J ≡ true → (G : Context) × (a c A : Tree) × (judgement_of v J ≡ TmEq G a c A)
equation_value v (TmEq G a c A) e = (_, _, _, _, refl)
equation_value v _ e = absurd (cc e)

pub unfolded-equation : (v : Parts trees) (rule : RuleName) → is_unfolded rule label.Right ≡ true → (G : Context) × (a c A : Tree) × (judgement_of v (pattern_of rule).gives ≡ TmEq G a c A)
unfolded-equation v rule e = equation_value v (pattern_of rule).gives (of_terms rule e)

-- by a rule whose parts are no substitutions
pub unfolded-plain : (rule : RuleName) → is_unfolded rule label.Right ≡ true → HasNoSubst (kinds_of rule)
unfolded-plain (Composition CompPi) e = tt
unfolded-plain (Composition CompSig) e = tt
unfolded-plain (Composition CompPath) e = tt
unfolded-plain (Composition CompGlue) e = tt
unfolded-plain (Composition CompU) e = tt
unfolded-plain _ e = absurd (cc e)

-- which is one of composition
pub unfolded-composition : (rule : RuleName) → is_unfolded rule label.Right ≡ true → ((r : CompRule) → rule ≡ Composition r → ⊥) → ⊥
unfolded-composition (Composition r) e other = other r refl
unfolded-composition _ e other = absurd (cc e)

pub unfolded-types : (rule : CompRule) → is_unfolded (Composition rule) label.Right ≡ true → (rule ≡ CompGlue → ⊥) → (rule ≡ CompU → ⊥) → IsOfTypes (Composition rule)
unfolded-types CompPi e g u = tt
unfolded-types CompSig e g u = tt
unfolded-types CompPath e g u = tt
unfolded-types CompGlue e g u = absurd (g refl)
unfolded-types CompU e g u = absurd (u refl)
unfolded-types _ e g u = absurd (cc e)
