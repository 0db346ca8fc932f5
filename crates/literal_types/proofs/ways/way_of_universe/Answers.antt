use Rattle.std.proofs.Common.{sym, subst}
use Rattle.theory.specs.declared.rule.RuleName.TheVariants.{Universe}
use Rattle.rules.specs.Rules.{AtAll}
use Rattle.literal_types.specs.declared.ways.Way.TheVariants as way
use Rattle.literal_types.specs.Ways.{IsWay}
use Rattle.literal_types.proofs.WayLaws.{small, other_universe}
use Rattle.literal_types.proofs.ways.way_of_universe.Goals as goal

pub returns-in-TyU : goal.returns-in-TyU
returns-in-TyU c = subst (λ n. AtAll (Universe n) (λ xs r. IsWay way.Same r)) (sym c.in-TyU.is) small

pub returns-in_default : goal.returns-in_default
returns-in_default c = other_universe c.args.rule c.in_default.not-TyU
