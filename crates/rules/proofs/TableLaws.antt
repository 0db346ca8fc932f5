-- Facts on every rule of the table.
use Rattle.std.proofs.Common.{rules, ◌≡◌, ◌≤◌, List, [], ◌∷◌, length, refl, sym, ◌∙◌, ap, Some, IsSome, map}
use Rattle.trees.specs.declared.kind.PartKind.{PartKind}
use Rattle.trees.specs.declared.kind.PartKind.TheVariants as part
use Rattle.theory.specs.declared.rule.ContextRule.TheVariants.{CtxNil}
use Rattle.theory.specs.declared.rule.InstanceRule.TheVariants.{TySub}
use Rattle.theory.specs.declared.rule.EqualityRule.TheVariants.{TyEqRefl}
use Rattle.theory.specs.declared.rule.UniverseRule.TheVariants.{TyUniv}
use Rattle.theory.specs.declared.rule.PiRule.TheVariants.{PiTy}
use Rattle.theory.specs.declared.rule.SigmaRule.TheVariants.{SigTy}
use Rattle.theory.specs.declared.rule.PathRule.TheVariants.{PathTy}
use Rattle.theory.specs.declared.rule.NatRule.TheVariants.{NatU}
use Rattle.theory.specs.declared.rule.SystemRule.TheVariants.{SysTy}
use Rattle.theory.specs.declared.rule.CompRule.TheVariants.{Comp}
use Rattle.theory.specs.declared.rule.GlueRule.TheVariants.{GlueTy}
use Rattle.theory.specs.declared.rule.RuleName.{RuleName}
use Rattle.theory.specs.declared.rule.RuleName.TheVariants.{Contexts, Instances, Equality}
use Rattle.theory.specs.declared.rule.RuleName.TheVariants.{Universe, Pi, Sigma, Paths, Naturals}
use Rattle.theory.specs.declared.rule.RuleName.TheVariants.{Systems, Composition, Gluing}
use Rattle.trees.specs.Judgements.{trees, TreeRule}
use Rattle.theory.specs.RuleNames.{kinds_of, premises_of}
use Rattle.trees.specs.Things.{Thing, ATree, ASubst, AContext, kind_of}
use Rattle.rules.specs.Table.{Over}
use Rattle.rules.specs.Rules.{tree_rule, over_parts, rule_at, AtAll}
use Rattle.rules.proofs.Readings.{at_parts}

-- a rule wants as many premises as its signature says
counted : (name : RuleName) → AtAll name (λ xs r. length r.wants ≡ premises_of name)
counted (Contexts CtxNil) = search rules
counted (Contexts _) = search rules
counted (Instances TySub) = search rules
counted (Instances _) = search rules
counted (Equality TyEqRefl) = search rules
counted (Equality _) = search rules
counted (Universe TyUniv) = search rules
counted (Universe _) = search rules
counted (Pi PiTy) = search rules
counted (Pi _) = search rules
counted (Sigma SigTy) = search rules
counted (Sigma _) = search rules
counted (Paths PathTy) = search rules
counted (Paths _) = search rules
counted (Naturals NatU) = search rules
counted (Naturals _) = search rules
counted (Systems SysTy) = search rules
counted (Systems _) = search rules
counted (Composition Comp) = search rules
counted (Composition _) = search rules
counted (Gluing GlueTy) = search rules
counted (Gluing _) = search rules

-- the side conditions of a rule are few
few : (name : RuleName) → AtAll name (λ xs r. length r.sides ≤ 16)
few (Contexts CtxNil) = search rules
few (Contexts _) = search rules
few (Instances TySub) = search rules
few (Instances _) = search rules
few (Equality TyEqRefl) = search rules
few (Equality _) = search rules
few (Universe TyUniv) = search rules
few (Universe _) = search rules
few (Pi PiTy) = search rules
few (Pi _) = search rules
few (Sigma SigTy) = search rules
few (Sigma _) = search rules
few (Paths PathTy) = search rules
few (Paths _) = search rules
few (Naturals NatU) = search rules
few (Naturals _) = search rules
few (Systems SysTy) = search rules
few (Systems _) = search rules
few (Composition Comp) = search rules
few (Composition _) = search rules
few (Gluing GlueTy) = search rules
few (Gluing _) = search rules

-- what holds at all parts holds of the rule at these
pub at_these : (name : RuleName) (P : List Thing → TreeRule → Type 0) → AtAll name P → (xs : List Thing) (r : TreeRule) → rule_at name xs ≡ Some r → P xs r
unfolding rule_at
at_these name P h xs r e =
    let a = at_parts (kinds_of name) (tree_rule name) P h xs (rw e refl) in
    let p : Some a.rule ≡ Some r = sym a.is ∙ e in
    let q : a.rule ≡ r = cc in
    rw (sym q) a.holds

pub wants-count : (name : RuleName) (xs : List Thing) (r : TreeRule) → rule_at name xs ≡ Some r → length r.wants ≡ premises_of name
wants-count name = at_these name (λ xs r. length r.wants ≡ premises_of name) (counted name)

pub sides-few : (name : RuleName) (xs : List Thing) (r : TreeRule) → rule_at name xs ≡ Some r → length r.sides ≤ 16
sides-few name = at_these name (λ xs r. length r.sides ≤ 16) (few name)

-- a rule stands at parts exactly where they have its kinds

kinds_over : (kinds : List PartKind) (r : Over trees kinds) (xs : List Thing) → map kind_of xs ≡ kinds → IsSome (over_parts kinds r xs)
kinds_over [] r [] e = refl
kinds_over [] r (x ∷ xs) e = cc
kinds_over (k ∷ kinds) r [] e = cc
kinds_over (part.Context ∷ kinds) r (AContext G ∷ xs) e = kinds_over kinds (r G) xs (cc)
kinds_over (part.Context ∷ kinds) r (ATree t ∷ xs) e = cc
kinds_over (part.Context ∷ kinds) r (ASubst d ∷ xs) e = cc
kinds_over (part.Subst ∷ kinds) r (AContext G ∷ xs) e = cc
kinds_over (part.Subst ∷ kinds) r (ATree t ∷ xs) e = cc
kinds_over (part.Subst ∷ kinds) r (ASubst d ∷ xs) e = kinds_over kinds (r d) xs (cc)
kinds_over (part.Term ∷ kinds) r (AContext G ∷ xs) e = cc
kinds_over (part.Term ∷ kinds) r (ATree t ∷ xs) e = kinds_over kinds (r t) xs (cc)
kinds_over (part.Term ∷ kinds) r (ASubst d ∷ xs) e = cc

over_kinds : (kinds : List PartKind) (r : Over trees kinds) (xs : List Thing) → IsSome (over_parts kinds r xs) → map kind_of xs ≡ kinds
over_kinds [] r [] s = refl
over_kinds [] r (x ∷ xs) s = cc
over_kinds (part.Context ∷ kinds) r [] s = cc
over_kinds (part.Context ∷ kinds) r (AContext G ∷ xs) s = ap (λ ks. part.Context ∷ ks) (over_kinds kinds (r G) xs s)
over_kinds (part.Context ∷ kinds) r (ATree t ∷ xs) s = cc
over_kinds (part.Context ∷ kinds) r (ASubst d ∷ xs) s = cc
over_kinds (part.Subst ∷ kinds) r [] s = cc
over_kinds (part.Subst ∷ kinds) r (AContext G ∷ xs) s = cc
over_kinds (part.Subst ∷ kinds) r (ATree t ∷ xs) s = cc
over_kinds (part.Subst ∷ kinds) r (ASubst d ∷ xs) s = ap (λ ks. part.Subst ∷ ks) (over_kinds kinds (r d) xs s)
over_kinds (part.Term ∷ kinds) r [] s = cc
over_kinds (part.Term ∷ kinds) r (AContext G ∷ xs) s = cc
over_kinds (part.Term ∷ kinds) r (ATree t ∷ xs) s = ap (λ ks. part.Term ∷ ks) (over_kinds kinds (r t) xs s)
over_kinds (part.Term ∷ kinds) r (ASubst d ∷ xs) s = cc

pub some_rule : (name : RuleName) (xs : List Thing) → map kind_of xs ≡ kinds_of name → IsSome (rule_at name xs)
unfolding rule_at
some_rule name xs e = kinds_over (kinds_of name) (tree_rule name) xs e

pub rule_kinds : (name : RuleName) (xs : List Thing) → IsSome (rule_at name xs) → map kind_of xs ≡ kinds_of name
unfolding rule_at
rule_kinds name xs s = over_kinds (kinds_of name) (tree_rule name) xs s
