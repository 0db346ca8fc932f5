use Rattle.std.proofs.Common.{sym, subst}
use Rattle.theory.specs.declared.rule.RuleName.TheVariants.{Sigma}
use Rattle.rules.specs.Rules.{AtAll}
use Rattle.literal_terms.specs.declared.ways.Way.TheVariants as way
use Rattle.literal_terms.specs.Ways.{IsWay}
use Rattle.literal_terms.proofs.WayLaws.{sigma_small, paired, other_sigma}
use Rattle.literal_terms.proofs.ways.way_of_sigma.Goals as goal

pub returns-in-SigU : goal.returns-in-SigU
returns-in-SigU c = subst (λ n. AtAll (Sigma n) (λ xs r. IsWay way.Type r)) (sym c.in-SigU.is) sigma_small

pub returns-in-Pair : goal.returns-in-Pair
returns-in-Pair c = subst (λ n. AtAll (Sigma n) (λ xs r. IsWay way.Pair r)) (sym c.in-Pair.is) paired

pub returns-in_default : goal.returns-in_default
returns-in_default c = other_sigma c.args.rule c.in_default.not-SigU c.in_default.not-Pair
