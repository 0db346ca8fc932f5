use Rattle.std.proofs.Common.{sym, subst}
use Rattle.theory.specs.declared.rule.RuleName.TheVariants.{Sigma}
use Rattle.rules.specs.Rules.{AtAll}
use Rattle.literal_types.specs.declared.forms.Former.TheVariants as former
use Rattle.literal_types.specs.declared.forms.Size.TheVariants as size
use Rattle.literal_types.specs.declared.ways.Way.TheVariants as way
use Rattle.literal_types.specs.Ways.{IsWay}
use Rattle.literal_types.proofs.WayLaws.{sigma_type, sigma_small, other_sigma}
use Rattle.literal_types.proofs.ways.way_of_sigma.Goals as goal

pub returns-in-SigTy : goal.returns-in-SigTy
returns-in-SigTy c = subst (λ n. AtAll (Sigma n) (λ xs r. IsWay (way.Family former.Sigma size.Large) r)) (sym c.in-SigTy.is) sigma_type

pub returns-in-SigU : goal.returns-in-SigU
returns-in-SigU c = subst (λ n. AtAll (Sigma n) (λ xs r. IsWay (way.Family former.Sigma size.Small) r)) (sym c.in-SigU.is) sigma_small

pub returns-in_default : goal.returns-in_default
returns-in_default c = other_sigma c.args.rule c.in_default.not-SigTy c.in_default.not-SigU
