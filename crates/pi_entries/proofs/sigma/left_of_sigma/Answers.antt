use Rattle.std.proofs.Common.{refl, [], ◌∷◌}
use Rattle.theory.specs.declared.rule.RuleName.TheVariants.{Sigma}
use Rattle.theory.specs.declared.rule.SigmaRule.TheVariants as rule
use Rattle.presuppositions.specs.declared.source.Label.TheVariants as label
use Rattle.presuppositions.specs.Entries.{has_none}
use Rattle.presuppositions.proofs.EntryLaws.{answers, one-of}
use Rattle.pi_entries.proofs.sigma.left_of_sigma.Goals as goal

pub returns-in-SigTyCong : goal.returns-in-SigTyCong
returns-in-SigTyCong c = λ earlier. answers (λ r. Sigma r) earlier label.Left c.args.rule rule.SigTyCong c.in-SigTyCong.is _ _ _ c.derived.result c.derived.ensures refl

pub returns-in-SigUCong : goal.returns-in-SigUCong
returns-in-SigUCong c = λ earlier. answers (λ r. Sigma r) earlier label.Left c.args.rule rule.SigUCong c.in-SigUCong.is _ _ _ c.derived-in-SigUCong.result c.derived-in-SigUCong.ensures refl

pub returns-in-FstCong : goal.returns-in-FstCong
returns-in-FstCong c = λ earlier. answers (λ r. Sigma r) earlier label.Left c.args.rule rule.FstCong c.in-FstCong.is _ _ _ c.derived-in-FstCong.result c.derived-in-FstCong.ensures refl

pub returns-in-SndCong : goal.returns-in-SndCong
returns-in-SndCong c = λ earlier. answers (λ r. Sigma r) earlier label.Left c.args.rule rule.SndCong c.in-SndCong.is _ _ _ c.derived-in-SndCong.result c.derived-in-SndCong.ensures refl

pub returns-in-SigBeta1 : goal.returns-in-SigBeta1
returns-in-SigBeta1 c = λ earlier. answers (λ r. Sigma r) earlier label.Left c.args.rule rule.SigBeta1 c.in-SigBeta1.is _ _ _ c.derived-in-SigBeta1.result c.derived-in-SigBeta1.ensures refl

pub returns-in-SigBeta2 : goal.returns-in-SigBeta2
returns-in-SigBeta2 c = λ earlier. answers (λ r. Sigma r) earlier label.Left c.args.rule rule.SigBeta2 c.in-SigBeta2.is _ _ _ c.derived-in-SigBeta2.result c.derived-in-SigBeta2.ensures refl

pub returns-in-SigEta : goal.returns-in-SigEta
returns-in-SigEta c = λ earlier. answers (λ r. Sigma r) earlier label.Left c.args.rule rule.SigEta c.in-SigEta.is _ _ _ c.at_hand.result c.at_hand.ensures refl

pub returns-in-SigTy : goal.returns-in-SigTy
returns-in-SigTy c = λ earlier. one-of (λ r. has_none (Sigma r) label.Left) c.args.rule (rule.SigTy ∷ rule.SigU ∷ rule.Pair ∷ rule.Fst ∷ rule.Snd ∷ []) c.in-SigTy.is refl
