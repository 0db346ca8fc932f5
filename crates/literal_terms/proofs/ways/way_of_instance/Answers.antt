use Rattle.std.proofs.Common.{sym, subst}
use Rattle.theory.specs.declared.rule.RuleName.TheVariants.{Instances}
use Rattle.rules.specs.Rules.{AtAll}
use Rattle.literal_terms.specs.declared.ways.Way.TheVariants as way
use Rattle.literal_terms.specs.Ways.{IsWay}
use Rattle.literal_terms.proofs.WayLaws.{instance, variable, other_instance}
use Rattle.literal_terms.proofs.ways.way_of_instance.Goals as goal

pub returns-in-TmSub : goal.returns-in-TmSub
returns-in-TmSub c = subst (λ n. AtAll (Instances n) (λ xs r. IsWay way.Instance r)) (sym c.in-TmSub.is) instance

pub returns-in-TmVar : goal.returns-in-TmVar
returns-in-TmVar c = subst (λ n. AtAll (Instances n) (λ xs r. IsWay way.Variable r)) (sym c.in-TmVar.is) variable

pub returns-in_default : goal.returns-in_default
returns-in_default c = other_instance c.args.rule c.in_default.not-TmSub c.in_default.not-TmVar
