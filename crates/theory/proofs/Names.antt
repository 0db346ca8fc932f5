-- The names of operators and rules are distinct, and are words of visible characters; the tables have each.
use Rattle.std.proofs.Common.{◌≡◌, ℕ, zero, suc, ◌<◌, Bool, true, nat_lt, List, [], ◌∷◌, length, get_or, Some, refl, sym, ◌∙◌, ap, arith}
use Rattle.std.specs.Prelude.{slice_get}
use Rattle.std.specs.List.{list_all, All}
use Rattle.std.proofs.lemmas.Bool.Decides.{Decides-by_and, Decides-ltb}
use Rattle.trees.specs.Operators.{name_of as operator_name}
use Rattle.theory.specs.RuleNames.{name_of as rule_name}
use Rattle.trees.specs.declared.op.Op.{Op}
use Rattle.trees.specs.declared.op.Op.TheVariants.{I0}
use Rattle.theory.specs.declared.operators.TheConstants.{OPERATORS}
use Rattle.theory.specs.declared.rule.RuleName.{RuleName}
use Rattle.theory.specs.declared.rule.RuleName.TheVariants.{Contexts, Instances, Equality}
use Rattle.theory.specs.declared.rule.RuleName.TheVariants.{Universe, Pi, Sigma, Paths, Naturals}
use Rattle.theory.specs.declared.rule.RuleName.TheVariants.{Systems, Composition, Gluing}
use Rattle.theory.specs.declared.rule.ContextRule.TheVariants.{CtxNil}
use Rattle.theory.specs.declared.rule.InstanceRule.TheVariants.{TySub}
use Rattle.theory.specs.declared.rule.EqualityRule.TheVariants.{TyEqRefl}
use Rattle.theory.specs.declared.rule.UniverseRule.TheVariants.{TyUniv}
use Rattle.theory.specs.declared.rule.PiRule.TheVariants.{PiTy}
use Rattle.theory.specs.declared.rule.SigmaRule.TheVariants.{SigTy}
use Rattle.theory.specs.declared.rule.PathRule.TheVariants.{PathTy}
use Rattle.theory.specs.declared.rule.NatRule.TheVariants.{NatU}
use Rattle.theory.specs.declared.rule.SystemRule.TheVariants.{SysTy}
use Rattle.theory.specs.declared.rule.CompRule.TheVariants.{Comp}
use Rattle.theory.specs.declared.rule.GlueRule.TheVariants.{GlueTy}
use Rattle.theory.specs.declared.rule.TheConstants.{RULES}
use Rattle.theory.proofs.LookupLaws.{named, same_from_name}

-- visible bytes alone, so no space and no newline
abbrev pub is_visible : List ℕ → Bool
is_visible name = list_all (nat_lt 32) name

pub visible : (name : List ℕ) → is_visible name ≡ true → All (λ b. 32 < b) name
visible name = (Decides-by_and (nat_lt 32) (λ b. 32 < b) is_visible (Decides-ltb 32) refl (λ _ _. refl) name).0

-- Of each item by computation: the first line of a family makes the second run through the others.

pub every_operator : (op : Op) → named operator_name OPERATORS.now (operator_name op) ≡ Some op
every_operator I0 = refl
every_operator _ = refl

operator_is_visible : (op : Op) → is_visible (operator_name op) ≡ true
operator_is_visible I0 = refl
operator_is_visible _ = refl

pub every_rule : (rule : RuleName) → named rule_name RULES.now (rule_name rule) ≡ Some rule
every_rule (Contexts CtxNil) = refl
every_rule (Contexts _) = refl
every_rule (Instances TySub) = refl
every_rule (Instances _) = refl
every_rule (Equality TyEqRefl) = refl
every_rule (Equality _) = refl
every_rule (Universe TyUniv) = refl
every_rule (Universe _) = refl
every_rule (Pi PiTy) = refl
every_rule (Pi _) = refl
every_rule (Sigma SigTy) = refl
every_rule (Sigma _) = refl
every_rule (Paths PathTy) = refl
every_rule (Paths _) = refl
every_rule (Naturals NatU) = refl
every_rule (Naturals _) = refl
every_rule (Systems SysTy) = refl
every_rule (Systems _) = refl
every_rule (Composition Comp) = refl
every_rule (Composition _) = refl
every_rule (Gluing GlueTy) = refl
every_rule (Gluing _) = refl

rule_is_visible : (rule : RuleName) → is_visible (rule_name rule) ≡ true
rule_is_visible (Contexts CtxNil) = refl
rule_is_visible (Contexts _) = refl
rule_is_visible (Instances TySub) = refl
rule_is_visible (Instances _) = refl
rule_is_visible (Equality TyEqRefl) = refl
rule_is_visible (Equality _) = refl
rule_is_visible (Universe TyUniv) = refl
rule_is_visible (Universe _) = refl
rule_is_visible (Pi PiTy) = refl
rule_is_visible (Pi _) = refl
rule_is_visible (Sigma SigTy) = refl
rule_is_visible (Sigma _) = refl
rule_is_visible (Paths PathTy) = refl
rule_is_visible (Paths _) = refl
rule_is_visible (Naturals NatU) = refl
rule_is_visible (Naturals _) = refl
rule_is_visible (Systems SysTy) = refl
rule_is_visible (Systems _) = refl
rule_is_visible (Composition Comp) = refl
rule_is_visible (Composition _) = refl
rule_is_visible (Gluing GlueTy) = refl
rule_is_visible (Gluing _) = refl

pub operator_visible : (op : Op) → All (λ b. 32 < b) (operator_name op)
operator_visible op = visible (operator_name op) (operator_is_visible op)

pub rule_visible : (rule : RuleName) → All (λ b. 32 < b) (rule_name rule)
rule_visible rule = visible (rule_name rule) (rule_is_visible rule)

pub same_operator : (op other : Op) → operator_name op ≡ operator_name other → op ≡ other
same_operator = same_from_name operator_name OPERATORS.now refl every_operator

pub same_rule : (rule other : RuleName) → rule_name rule ≡ rule_name other → rule ≡ other
same_rule = same_from_name rule_name RULES.now refl every_rule

-- the rule stands at the place that has its name
pub place-of_rule : (rule : RuleName) (at : ℕ) → at < length RULES.now → ((d : RuleName) → rule_name rule ≡ rule_name (get_or RULES.now at d)) → slice_get RULES.now at ≡ Some rule
place-of_rule rule at within same = there RULES.now at within ∙ ap Some (sym (same_rule rule (get_or RULES.now at rule) (same rule)))
  where
    there : (rules : List RuleName) (at : ℕ) → at < length rules → slice_get rules at ≡ Some (get_or rules at rule)
    there [] at lt = absurd (omega arith)
    there (x ∷ rules) zero lt = refl
    there (x ∷ rules) (suc at) lt = there rules at (omega arith)
