use Rattle.std.proofs.Common.{sym, subst}
use Rattle.theory.specs.declared.rule.RuleName.TheVariants.{Paths}
use Rattle.rules.specs.Rules.{AtAll}
use Rattle.literal_types.specs.declared.forms.Size.TheVariants as size
use Rattle.literal_types.specs.declared.ways.Way.TheVariants as way
use Rattle.literal_types.specs.Ways.{IsWay}
use Rattle.literal_types.proofs.WayLaws.{path_type, path_small, other_path}
use Rattle.literal_types.proofs.ways.way_of_path.Goals as goal

pub returns-in-PathTy : goal.returns-in-PathTy
returns-in-PathTy c = subst (λ n. AtAll (Paths n) (λ xs r. IsWay (way.Line size.Large) r)) (sym c.in-PathTy.is) path_type

pub returns-in-PathU : goal.returns-in-PathU
returns-in-PathU c = subst (λ n. AtAll (Paths n) (λ xs r. IsWay (way.Line size.Small) r)) (sym c.in-PathU.is) path_small

pub returns-in_default : goal.returns-in_default
returns-in_default c = other_path c.args.rule c.in_default.not-PathTy c.in_default.not-PathU
