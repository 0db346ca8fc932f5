use Rattle.std.proofs.Common.{◌≡◌, ◌≤◌, ◌∙◌, sym, subst, arith}
use Rattle.theory.specs.RuleNames.{first_version}
use Rattle.theory.specs.declared.rule.RuleName.{RuleName}
use Rattle.theory.proofs.Names.{same_rule}
use Rattle.theory.proofs.rule.rule_of.Goals as goal

-- one rule has the name, and it is of a later version
pub returns-else-signature_of-version-clause-none : goal.returns-else-signature_of-version-clause-none
returns-else-signature_of-version-clause-none c = λ rule is.
    let same : rule ≡ c.in_ok-rule.rule = same_rule rule c.in_ok-rule.rule (sym is.0 ∙ c.in_ok-rule.ensures.some) in
    let R : RuleName → Type 0 = λ r. first_version r ≤ c.args.version in
    let early : first_version c.in_ok-rule.rule ≤ c.args.version = subst R same is.1 in
    omega (arith, early, c.signature_of.ensures.3, c.if-signature_of-version.false)
