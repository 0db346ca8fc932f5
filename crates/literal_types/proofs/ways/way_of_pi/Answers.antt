use Rattle.std.proofs.Common.{sym, subst}
use Rattle.theory.specs.declared.rule.RuleName.TheVariants.{Pi}
use Rattle.rules.specs.Rules.{AtAll}
use Rattle.literal_types.specs.declared.forms.Former.TheVariants as former
use Rattle.literal_types.specs.declared.forms.Size.TheVariants as size
use Rattle.literal_types.specs.declared.ways.Way.TheVariants as way
use Rattle.literal_types.specs.Ways.{IsWay}
use Rattle.literal_types.proofs.WayLaws.{pi_type, pi_small, other_pi}
use Rattle.literal_types.proofs.ways.way_of_pi.Goals as goal

pub returns-in-PiTy : goal.returns-in-PiTy
returns-in-PiTy c = subst (λ n. AtAll (Pi n) (λ xs r. IsWay (way.Family former.Pi size.Large) r)) (sym c.in-PiTy.is) pi_type

pub returns-in-PiU : goal.returns-in-PiU
returns-in-PiU c = subst (λ n. AtAll (Pi n) (λ xs r. IsWay (way.Family former.Pi size.Small) r)) (sym c.in-PiU.is) pi_small

pub returns-in_default : goal.returns-in_default
returns-in_default c = other_pi c.args.rule c.in_default.not-PiTy c.in_default.not-PiU
