use Rattle.std.proofs.Common.{sym, subst}
use Rattle.theory.specs.declared.rule.RuleName.TheVariants.{Equality}
use Rattle.rules.specs.Rules.{AtAll}
use Rattle.literal_terms.specs.declared.ways.Way.TheVariants as way
use Rattle.literal_terms.specs.Ways.{IsWay}
use Rattle.literal_terms.proofs.WayLaws.{converted, other_equality}
use Rattle.literal_terms.proofs.ways.way_of_equality.Goals as goal

pub returns-in-TmConv : goal.returns-in-TmConv
returns-in-TmConv c = subst (λ n. AtAll (Equality n) (λ xs r. IsWay way.Converted r)) (sym c.in-TmConv.is) converted

pub returns-in_default : goal.returns-in_default
returns-in_default c = other_equality c.args.rule c.in_default.not-TmConv
