use Rattle.std.proofs.Common.{sym, subst}
use Rattle.theory.specs.declared.rule.RuleName.TheVariants.{Instances}
use Rattle.rules.specs.Rules.{AtAll}
use Rattle.literal_types.specs.declared.ways.Way.TheVariants as way
use Rattle.literal_types.specs.Ways.{IsWay}
use Rattle.literal_types.proofs.WayLaws.{type_instance, term_instance, variable, other_instance}
use Rattle.literal_types.proofs.ways.way_of_instance.Goals as goal

pub returns-in-TySub : goal.returns-in-TySub
returns-in-TySub c = subst (λ n. AtAll (Instances n) (λ xs r. IsWay way.Instance r)) (sym c.in-TySub.is) type_instance

pub returns-in-TmSub : goal.returns-in-TmSub
returns-in-TmSub c = subst (λ n. AtAll (Instances n) (λ xs r. IsWay way.Instance r)) (sym c.in-TmSub.is) term_instance

pub returns-in-TmVar : goal.returns-in-TmVar
returns-in-TmVar c = subst (λ n. AtAll (Instances n) (λ xs r. IsWay way.Variable r)) (sym c.in-TmVar.is) variable

pub returns-in_default : goal.returns-in_default
returns-in_default c = other_instance c.args.rule c.in_default.not-TySub c.in_default.not-TmSub c.in_default.not-TmVar
