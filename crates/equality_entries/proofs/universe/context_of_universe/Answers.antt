use Rattle.std.proofs.Common.{refl}
use Rattle.theory.specs.declared.rule.RuleName.TheVariants.{Universe}
use Rattle.theory.specs.declared.rule.UniverseRule.TheVariants as rule
use Rattle.presuppositions.specs.declared.source.Label.TheVariants as label
use Rattle.presuppositions.proofs.EntryLaws.{answers}
use Rattle.equality_entries.proofs.universe.context_of_universe.Goals as goal

pub returns-in-TyUniv : goal.returns-in-TyUniv
returns-in-TyUniv c = λ earlier. answers (λ r. Universe r) earlier label.Context c.args.rule rule.TyUniv c.in-TyUniv.is _ _ _ c.at_hand.result c.at_hand.ensures refl

pub returns-in-TyU : goal.returns-in-TyU
returns-in-TyU c = λ earlier. answers (λ r. Universe r) earlier label.Context c.args.rule rule.TyU c.in-TyU.is _ _ _ c.at_hand-in-TyU.result c.at_hand-in-TyU.ensures refl

pub returns-in-TyEqU : goal.returns-in-TyEqU
returns-in-TyEqU c = λ earlier. answers (λ r. Universe r) earlier label.Context c.args.rule rule.TyEqU c.in-TyEqU.is _ _ _ c.at_hand-in-TyEqU.result c.at_hand-in-TyEqU.ensures refl
