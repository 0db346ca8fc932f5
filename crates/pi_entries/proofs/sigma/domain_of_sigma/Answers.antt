use Rattle.std.proofs.Common.{refl, [], ◌∷◌}
use Rattle.theory.specs.declared.rule.RuleName.TheVariants.{Sigma}
use Rattle.theory.specs.declared.rule.SigmaRule.TheVariants as rule
use Rattle.presuppositions.specs.declared.source.Label.TheVariants as label
use Rattle.presuppositions.specs.Entries.{has_none}
use Rattle.presuppositions.proofs.EntryLaws.{answers, one-of}
use Rattle.pi_entries.proofs.sigma.domain_of_sigma.Goals as goal

pub returns-in-SigTy : goal.returns-in-SigTy
returns-in-SigTy c = λ earlier. answers (λ r. Sigma r) earlier label.Domain c.args.rule rule.SigTy c.in-SigTy.is _ _ _ c.at_hand.result c.at_hand.ensures refl

pub returns-in-SigU : goal.returns-in-SigU
returns-in-SigU c = λ earlier. one-of (λ r. has_none (Sigma r) label.Domain) c.args.rule (rule.SigU ∷ rule.SigTyCong ∷ rule.SigUCong ∷ rule.Pair ∷ rule.Fst ∷ rule.Snd ∷ rule.FstCong ∷ rule.SndCong ∷ rule.SigBeta1 ∷ rule.SigBeta2 ∷ rule.SigEta ∷ []) c.in-SigU.is refl
