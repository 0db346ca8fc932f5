use Rattle.std.proofs.Common.{refl, [], ◌∷◌}
use Rattle.theory.specs.declared.rule.RuleName.TheVariants.{Pi}
use Rattle.theory.specs.declared.rule.PiRule.TheVariants as rule
use Rattle.presuppositions.specs.declared.source.Label.TheVariants as label
use Rattle.presuppositions.specs.Entries.{has_none}
use Rattle.presuppositions.proofs.EntryLaws.{answers, one-of}
use Rattle.pi_entries.proofs.pi.type_of_pi.Goals as goal

pub returns-in-PiU : goal.returns-in-PiU
returns-in-PiU c = λ earlier. answers (λ r. Pi r) earlier label.Type c.args.rule rule.PiU c.in-PiU.is _ _ _ c.derived.result c.derived.ensures refl

pub returns-in-PiUCong : goal.returns-in-PiUCong
returns-in-PiUCong c = λ earlier. answers (λ r. Pi r) earlier label.Type c.args.rule rule.PiUCong c.in-PiUCong.is _ _ _ c.derived-in-PiUCong.result c.derived-in-PiUCong.ensures refl

pub returns-in-Lam : goal.returns-in-Lam
returns-in-Lam c = λ earlier. answers (λ r. Pi r) earlier label.Type c.args.rule rule.Lam c.in-Lam.is _ _ _ c.derived-in-Lam.result c.derived-in-Lam.ensures refl

pub returns-in-App : goal.returns-in-App
returns-in-App c = λ earlier. answers (λ r. Pi r) earlier label.Type c.args.rule rule.App c.in-App.is _ _ _ c.derived-in-App.result c.derived-in-App.ensures refl

pub returns-in-AppCong : goal.returns-in-AppCong
returns-in-AppCong c = λ earlier. answers (λ r. Pi r) earlier label.Type c.args.rule rule.AppCong c.in-AppCong.is _ _ _ c.derived-in-AppCong.result c.derived-in-AppCong.ensures refl

pub returns-in-PiBeta : goal.returns-in-PiBeta
returns-in-PiBeta c = λ earlier. answers (λ r. Pi r) earlier label.Type c.args.rule rule.PiBeta c.in-PiBeta.is _ _ _ c.derived-in-PiBeta.result c.derived-in-PiBeta.ensures refl

pub returns-in-PiEta : goal.returns-in-PiEta
returns-in-PiEta c = λ earlier. answers (λ r. Pi r) earlier label.Type c.args.rule rule.PiEta c.in-PiEta.is _ _ _ c.at_hand.result c.at_hand.ensures refl

pub returns-in-PiTy : goal.returns-in-PiTy
returns-in-PiTy c = λ earlier. one-of (λ r. has_none (Pi r) label.Type) c.args.rule (rule.PiTy ∷ rule.PiTyCong ∷ []) c.in-PiTy.is refl
