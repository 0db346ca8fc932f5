-- The rules at trees: what the table means.
use Rattle.std.specs.Prelude.{List, [], ◌∷◌, Option, Some, None}
use Rattle.trees.specs.declared.kind.PartKind.{PartKind}
use Rattle.trees.specs.declared.kind.PartKind.TheVariants as part
use Rattle.theory.specs.declared.rule.RuleName.{RuleName}
use Rattle.theory.specs.declared.rule.RuleName.TheVariants.{Contexts, Instances, Equality}
use Rattle.theory.specs.declared.rule.RuleName.TheVariants.{Universe, Pi, Sigma, Paths}
use Rattle.theory.specs.declared.rule.RuleName.TheVariants.{Naturals}
use Rattle.theory.specs.declared.rule.RuleName.TheVariants.{Systems, Composition, Gluing}
use Rattle.theory.specs.declared.rule.ContextRule.TheVariants.{CtxNil}
use Rattle.theory.specs.declared.rule.InstanceRule.TheVariants.{TySub}
use Rattle.theory.specs.declared.rule.EqualityRule.TheVariants.{TyEqRefl}
use Rattle.theory.specs.declared.rule.UniverseRule.TheVariants.{TyUniv}
use Rattle.theory.specs.declared.rule.PiRule.TheVariants.{PiTy}
use Rattle.theory.specs.declared.rule.SigmaRule.TheVariants.{SigTy}
use Rattle.theory.specs.declared.rule.PathRule.TheVariants.{PathTy}
use Rattle.theory.specs.declared.rule.NatRule.TheVariants.{NatU}
use Rattle.theory.specs.declared.rule.SystemRule.TheVariants.{SysTy}
use Rattle.theory.specs.declared.rule.CompRule.TheVariants.{Comp}
use Rattle.theory.specs.declared.rule.GlueRule.TheVariants.{GlueTy}
use Rattle.trees.specs.Trees.{Tree, Subst}
use Rattle.trees.specs.Judgements.{Context, trees, TreeRule}
use Rattle.trees.specs.Things.{Thing, ATree, ASubst, AContext}
use Rattle.theory.specs.RuleNames.{kinds_of}
use Rattle.rules.specs.Table.{Over, rule}

abbrev pub tree_rule : (name : RuleName) → Over trees (kinds_of name)
tree_rule = rule trees

-- a rule at these parts, where they have its kinds
abbrev pub over_parts : (kinds : List PartKind) → Over trees kinds → List Thing → Option TreeRule
over_parts [] r [] = Some r
over_parts (part.Context ∷ kinds) f (AContext G ∷ xs) = over_parts kinds (f G) xs
over_parts (part.Subst ∷ kinds) f (ASubst d ∷ xs) = over_parts kinds (f d) xs
over_parts (part.Term ∷ kinds) f (ATree t ∷ xs) = over_parts kinds (f t) xs
over_parts _ _ _ = None

-- the rule of the table at these parts, where they have its kinds
unfoldable pub rule_at : RuleName → List Thing → Option TreeRule
rule_at name parts = over_parts (kinds_of name) (tree_rule name) parts

-- P holds of all parts of these kinds and of the rule at them
abbrev pub AtAllParts : (kinds : List PartKind) →
    Over trees kinds → (List Thing → TreeRule → Type 0) → Type 0
AtAllParts [] r P = P [] r
AtAllParts (part.Context ∷ kinds) r P =
    (G : Context) → AtAllParts kinds (r G) (λ xs y. P (AContext G ∷ xs) y)
AtAllParts (part.Subst ∷ kinds) r P =
    (d : Subst) → AtAllParts kinds (r d) (λ xs y. P (ASubst d ∷ xs) y)
AtAllParts (part.Term ∷ kinds) r P =
    (t : Tree) → AtAllParts kinds (r t) (λ xs y. P (ATree t ∷ xs) y)

-- P holds of all parts of a rule's kinds and of the rule at them
abbrev pub AtAll : RuleName → (List Thing → TreeRule → Type 0) → Type 0
AtAll name = AtAllParts (kinds_of name) (tree_rule name)

-- The same by cases, so that it computes as soon as the rule is known: the first line of a family
-- makes the second run through the others.
abbrev pub AtAllCases : RuleName → (List Thing → TreeRule → Type 0) → Type 0
AtAllCases (Contexts CtxNil) P = AtAll (Contexts CtxNil) P
AtAllCases (Contexts name) P = AtAll (Contexts name) P
AtAllCases (Instances TySub) P = AtAll (Instances TySub) P
AtAllCases (Instances name) P = AtAll (Instances name) P
AtAllCases (Equality TyEqRefl) P = AtAll (Equality TyEqRefl) P
AtAllCases (Equality name) P = AtAll (Equality name) P
AtAllCases (Universe TyUniv) P = AtAll (Universe TyUniv) P
AtAllCases (Universe name) P = AtAll (Universe name) P
AtAllCases (Pi PiTy) P = AtAll (Pi PiTy) P
AtAllCases (Pi name) P = AtAll (Pi name) P
AtAllCases (Sigma SigTy) P = AtAll (Sigma SigTy) P
AtAllCases (Sigma name) P = AtAll (Sigma name) P
AtAllCases (Paths PathTy) P = AtAll (Paths PathTy) P
AtAllCases (Paths name) P = AtAll (Paths name) P
AtAllCases (Naturals NatU) P = AtAll (Naturals NatU) P
AtAllCases (Naturals name) P = AtAll (Naturals name) P
AtAllCases (Systems SysTy) P = AtAll (Systems SysTy) P
AtAllCases (Systems name) P = AtAll (Systems name) P
AtAllCases (Composition Comp) P = AtAll (Composition Comp) P
AtAllCases (Composition name) P = AtAll (Composition name) P
AtAllCases (Gluing GlueTy) P = AtAll (Gluing GlueTy) P
AtAllCases (Gluing name) P = AtAll (Gluing name) P
