use Rattle.std.proofs.Common.{sym, subst}
use Rattle.theory.specs.declared.rule.RuleName.TheVariants.{Pi}
use Rattle.rules.specs.Rules.{AtAll}
use Rattle.literal_terms.specs.declared.ways.Way.TheVariants as way
use Rattle.literal_terms.specs.Ways.{IsWay}
use Rattle.literal_terms.proofs.WayLaws.{pi_small, function, other_pi}
use Rattle.literal_terms.proofs.ways.way_of_pi.Goals as goal

pub returns-in-PiU : goal.returns-in-PiU
returns-in-PiU c = subst (λ n. AtAll (Pi n) (λ xs r. IsWay way.Type r)) (sym c.in-PiU.is) pi_small

pub returns-in-Lam : goal.returns-in-Lam
returns-in-Lam c = subst (λ n. AtAll (Pi n) (λ xs r. IsWay way.Function r)) (sym c.in-Lam.is) function

pub returns-in_default : goal.returns-in_default
returns-in_default c = other_pi c.args.rule c.in_default.not-PiU c.in_default.not-Lam
