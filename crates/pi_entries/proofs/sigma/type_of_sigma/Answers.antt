use Rattle.std.proofs.Common.{refl, [], ◌∷◌}
use Rattle.theory.specs.declared.rule.RuleName.TheVariants.{Sigma}
use Rattle.theory.specs.declared.rule.SigmaRule.TheVariants as rule
use Rattle.presuppositions.specs.declared.source.Label.TheVariants as label
use Rattle.presuppositions.specs.Entries.{has_none}
use Rattle.presuppositions.proofs.EntryLaws.{answers, one-of}
use Rattle.pi_entries.proofs.sigma.type_of_sigma.Goals as goal

pub returns-in-SigU : goal.returns-in-SigU
returns-in-SigU c = λ earlier. answers (λ r. Sigma r) earlier label.Type c.args.rule rule.SigU c.in-SigU.is _ _ _ c.derived.result c.derived.ensures refl

pub returns-in-SigUCong : goal.returns-in-SigUCong
returns-in-SigUCong c = λ earlier. answers (λ r. Sigma r) earlier label.Type c.args.rule rule.SigUCong c.in-SigUCong.is _ _ _ c.derived-in-SigUCong.result c.derived-in-SigUCong.ensures refl

pub returns-in-Pair : goal.returns-in-Pair
returns-in-Pair c = λ earlier. answers (λ r. Sigma r) earlier label.Type c.args.rule rule.Pair c.in-Pair.is _ _ _ c.derived-in-Pair.result c.derived-in-Pair.ensures refl

pub returns-in-Fst : goal.returns-in-Fst
returns-in-Fst c = λ earlier. answers (λ r. Sigma r) earlier label.Type c.args.rule rule.Fst c.in-Fst.is _ _ _ c.at_hand.result c.at_hand.ensures refl

pub returns-in-Snd : goal.returns-in-Snd
returns-in-Snd c = λ earlier. answers (λ r. Sigma r) earlier label.Type c.args.rule rule.Snd c.in-Snd.is _ _ _ c.derived-in-Snd.result c.derived-in-Snd.ensures refl

pub returns-in-FstCong : goal.returns-in-FstCong
returns-in-FstCong c = λ earlier. answers (λ r. Sigma r) earlier label.Type c.args.rule rule.FstCong c.in-FstCong.is _ _ _ c.at_hand-in-FstCong.result c.at_hand-in-FstCong.ensures refl

pub returns-in-SndCong : goal.returns-in-SndCong
returns-in-SndCong c = λ earlier. answers (λ r. Sigma r) earlier label.Type c.args.rule rule.SndCong c.in-SndCong.is _ _ _ c.derived-in-SndCong.result c.derived-in-SndCong.ensures refl

pub returns-in-SigBeta1 : goal.returns-in-SigBeta1
returns-in-SigBeta1 c = λ earlier. answers (λ r. Sigma r) earlier label.Type c.args.rule rule.SigBeta1 c.in-SigBeta1.is _ _ _ c.at_hand-in-SigBeta1.result c.at_hand-in-SigBeta1.ensures refl

pub returns-in-SigBeta2 : goal.returns-in-SigBeta2
returns-in-SigBeta2 c = λ earlier. answers (λ r. Sigma r) earlier label.Type c.args.rule rule.SigBeta2 c.in-SigBeta2.is _ _ _ c.at_hand-in-SigBeta2.result c.at_hand-in-SigBeta2.ensures refl

pub returns-in-SigEta : goal.returns-in-SigEta
returns-in-SigEta c = λ earlier. answers (λ r. Sigma r) earlier label.Type c.args.rule rule.SigEta c.in-SigEta.is _ _ _ c.at_hand-in-SigEta.result c.at_hand-in-SigEta.ensures refl

pub returns-in-SigTy : goal.returns-in-SigTy
returns-in-SigTy c = λ earlier. one-of (λ r. has_none (Sigma r) label.Type) c.args.rule (rule.SigTy ∷ rule.SigTyCong ∷ []) c.in-SigTy.is refl
