use Rattle.std.proofs.Common.{refl, [], ◌∷◌}
use Rattle.theory.specs.declared.rule.RuleName.TheVariants.{Pi}
use Rattle.theory.specs.declared.rule.PiRule.TheVariants as rule
use Rattle.presuppositions.specs.declared.source.Label.TheVariants as label
use Rattle.presuppositions.specs.Entries.{has_none}
use Rattle.presuppositions.proofs.EntryLaws.{answers, one-of}
use Rattle.pi_entries.proofs.pi.domain_of_pi.Goals as goal

pub returns-in-PiTy : goal.returns-in-PiTy
returns-in-PiTy c = λ earlier. answers (λ r. Pi r) earlier label.Domain c.args.rule rule.PiTy c.in-PiTy.is _ _ _ c.at_hand.result c.at_hand.ensures refl

pub returns-in-PiU : goal.returns-in-PiU
returns-in-PiU c = λ earlier. one-of (λ r. has_none (Pi r) label.Domain) c.args.rule (rule.PiU ∷ rule.PiTyCong ∷ rule.PiUCong ∷ rule.Lam ∷ rule.App ∷ rule.AppCong ∷ rule.PiBeta ∷ rule.PiEta ∷ []) c.in-PiU.is refl
