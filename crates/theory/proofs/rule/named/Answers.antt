use Rattle.std.proofs.Common.{Ok, Err, refl, rules}
use Rattle.std.proofs.lemmas.Fn.{always_returns_same}
use Rattle.std.specs.Cmp.Lexicographic.{slice_cmp}
use Rattle.std.specs.Ordering.{nat_cmp}
use Rattle.theory.specs.RuleNames.{name_of as rule_name}
use Rattle.theory.specs.declared.rule.TheConstants.{RULES}
use Rattle.theory.proofs.LookupLaws.{found, absent}
use Rattle.theory.proofs.Names.{every_rule}
use Rattle.theory.proofs.rule.named.Goals as goal

pub returns-in-Ok-clause-some : goal.returns-in-Ok-clause-some
returns-in-Ok-clause-some c =
    found rule_name RULES.now refl every_rule c.args.name.now (Ok c.in-Ok.at) (c.in-Ok.ensures.position (λ x. slice_cmp nat_cmp (rule_name x) c.args.name.now) (always_returns_same _ _ _ (λ a r g called. (search rules, search rules)))) _

pub returns-in-Err-clause-none : goal.returns-in-Err-clause-none
returns-in-Err-clause-none c =
    absent rule_name RULES.now refl every_rule c.args.name.now (Err c.in-Err.field-0) (c.in-Err.ensures.position (λ x. slice_cmp nat_cmp (rule_name x) c.args.name.now) (always_returns_same _ _ _ (λ a r g called. (search rules, search rules))))
