use Rattle.std.proofs.Common.{sym, subst}
use Rattle.theory.specs.declared.rule.RuleName.TheVariants.{Naturals}
use Rattle.rules.specs.Rules.{AtAll}
use Rattle.literal_terms.specs.declared.ways.Way.TheVariants as way
use Rattle.literal_terms.specs.Ways.{IsWay}
use Rattle.literal_terms.proofs.WayLaws.{number, other_number}
use Rattle.literal_terms.proofs.ways.way_of_number.Goals as goal

pub returns-in-NatU : goal.returns-in-NatU
returns-in-NatU c = subst (λ n. AtAll (Naturals n) (λ xs r. IsWay way.Type r)) (sym c.in-NatU.is) number

pub returns-in_default : goal.returns-in_default
returns-in_default c = other_number c.args.rule c.in_default.not-NatU
