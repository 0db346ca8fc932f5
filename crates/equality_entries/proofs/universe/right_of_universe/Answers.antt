use Rattle.std.proofs.Common.{refl, [], ◌∷◌}
use Rattle.theory.specs.declared.rule.RuleName.TheVariants.{Universe}
use Rattle.theory.specs.declared.rule.UniverseRule.TheVariants as rule
use Rattle.presuppositions.specs.declared.source.Label.TheVariants as label
use Rattle.presuppositions.specs.Entries.{has_none}
use Rattle.presuppositions.proofs.EntryLaws.{answers, one-of}
use Rattle.equality_entries.proofs.universe.right_of_universe.Goals as goal

pub returns-in-TyEqU : goal.returns-in-TyEqU
returns-in-TyEqU c = λ earlier. answers (λ r. Universe r) earlier label.Right c.args.rule rule.TyEqU c.in-TyEqU.is _ _ _ c.derived.result c.derived.ensures refl

pub returns-in-TyUniv : goal.returns-in-TyUniv
returns-in-TyUniv c = λ earlier. one-of (λ r. has_none (Universe r) label.Right) c.args.rule (rule.TyUniv ∷ rule.TyU ∷ []) c.in-TyUniv.is refl
