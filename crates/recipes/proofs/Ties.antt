-- Each rule of the table is the value of its pattern.
use Rattle.std.proofs.Common.{rules, ◌≡◌, List, map, length, sym, ◌∙◌, ap, Some}
use Rattle.std.proofs.lemmas.List.{length-map}
use Rattle.theory.specs.declared.rule.ContextRule.TheVariants.{CtxNil}
use Rattle.theory.specs.declared.rule.InstanceRule.TheVariants.{TySub}
use Rattle.theory.specs.declared.rule.EqualityRule.TheVariants.{TyEqRefl}
use Rattle.theory.specs.declared.rule.UniverseRule.TheVariants.{TyUniv}
use Rattle.theory.specs.declared.rule.PiRule.TheVariants.{PiTy}
use Rattle.theory.specs.declared.rule.SigmaRule.TheVariants.{SigTy}
use Rattle.theory.specs.declared.rule.PathRule.TheVariants.{PathTy}
use Rattle.theory.specs.declared.rule.NatRule.TheVariants.{NatU}
use Rattle.theory.specs.declared.rule.SystemRule.TheVariants.{SysTy}
use Rattle.theory.specs.declared.rule.CompRule.TheVariants.{Comp}
use Rattle.theory.specs.declared.rule.GlueRule.TheVariants.{GlueTy}
use Rattle.theory.specs.declared.rule.RuleName.{RuleName}
use Rattle.theory.specs.declared.rule.RuleName.TheVariants.{Contexts, Instances, Equality, Universe, Pi, Sigma, Paths, Naturals, Systems, Composition, Gluing}
use Rattle.theory.specs.RuleNames.{kinds_of, premises_of}
use Rattle.trees.proofs.OptionLaws.{some_of}
use Rattle.trees.specs.Things.{Thing, kind_of}
use Rattle.patterns.specs.Values.{parts_of, rule_of}
use Rattle.rules.specs.Rules.{rule_at, AtAll}
use Rattle.rules.proofs.TableLaws.{at_these, some_rule, wants-count}
use Rattle.recipes.specs.Statements.{pattern_of}

-- The first line of a family makes the second run through the others.
tied : (name : RuleName) → AtAll name (λ xs r. r ≡ rule_of (parts_of xs) (pattern_of name))
tied (Contexts CtxNil) = search rules
tied (Contexts _) = search rules
tied (Instances TySub) = search rules
tied (Instances _) = search rules
tied (Equality TyEqRefl) = search rules
tied (Equality _) = search rules
tied (Universe TyUniv) = search rules
tied (Universe _) = search rules
tied (Pi PiTy) = search rules
tied (Pi _) = search rules
tied (Sigma SigTy) = search rules
tied (Sigma _) = search rules
tied (Paths PathTy) = search rules
tied (Paths _) = search rules
tied (Naturals NatU) = search rules
tied (Naturals _) = search rules
tied (Systems SysTy) = search rules
tied (Systems _) = search rules
tied (Composition Comp) = search rules
tied (Composition _) = search rules
tied (Gluing GlueTy) = search rules
tied (Gluing _) = search rules

pub rule-pattern : (name : RuleName) (xs : List Thing) → map kind_of xs ≡ kinds_of name → rule_at name xs ≡ Some (rule_of (parts_of xs) (pattern_of name))
rule-pattern name xs kinds =
    let r = some_of (rule_at name xs) (some_rule name xs kinds) in
    r.is ∙ ap Some (at_these name (λ ys y. y ≡ rule_of (parts_of ys) (pattern_of name)) (tied name) xs r.value r.is)

pub count-pattern : (name : RuleName) (xs : List Thing) → map kind_of xs ≡ kinds_of name → length (pattern_of name).wants ≡ premises_of name
count-pattern name xs kinds =
    sym (length-map (pattern_of name).wants _) ∙ wants-count name xs (rule_of (parts_of xs) (pattern_of name)) (rule-pattern name xs kinds)
