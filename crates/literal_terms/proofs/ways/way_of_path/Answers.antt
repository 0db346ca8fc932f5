use Rattle.std.proofs.Common.{sym, subst}
use Rattle.theory.specs.declared.rule.RuleName.TheVariants.{Paths}
use Rattle.rules.specs.Rules.{AtAll}
use Rattle.literal_terms.specs.declared.ways.Way.TheVariants as way
use Rattle.literal_terms.specs.Ways.{IsWay}
use Rattle.literal_terms.proofs.WayLaws.{path_small, path, other_path}
use Rattle.literal_terms.proofs.ways.way_of_path.Goals as goal

pub returns-in-PathU : goal.returns-in-PathU
returns-in-PathU c = subst (λ n. AtAll (Paths n) (λ xs r. IsWay way.Type r)) (sym c.in-PathU.is) path_small

pub returns-in-PLam : goal.returns-in-PLam
returns-in-PLam c = subst (λ n. AtAll (Paths n) (λ xs r. IsWay way.Path r)) (sym c.in-PLam.is) path

pub returns-in_default : goal.returns-in_default
returns-in_default c = other_path c.args.rule c.in_default.not-PathU c.in_default.not-PLam
