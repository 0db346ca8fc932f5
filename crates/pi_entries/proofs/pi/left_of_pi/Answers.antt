use Rattle.std.proofs.Common.{refl, [], ◌∷◌}
use Rattle.theory.specs.declared.rule.RuleName.TheVariants.{Pi}
use Rattle.theory.specs.declared.rule.PiRule.TheVariants as rule
use Rattle.presuppositions.specs.declared.source.Label.TheVariants as label
use Rattle.presuppositions.specs.Entries.{has_none}
use Rattle.presuppositions.proofs.EntryLaws.{answers, one-of}
use Rattle.pi_entries.proofs.pi.left_of_pi.Goals as goal

pub returns-in-PiTyCong : goal.returns-in-PiTyCong
returns-in-PiTyCong c = λ earlier. answers (λ r. Pi r) earlier label.Left c.args.rule rule.PiTyCong c.in-PiTyCong.is _ _ _ c.derived.result c.derived.ensures refl

pub returns-in-PiUCong : goal.returns-in-PiUCong
returns-in-PiUCong c = λ earlier. answers (λ r. Pi r) earlier label.Left c.args.rule rule.PiUCong c.in-PiUCong.is _ _ _ c.derived-in-PiUCong.result c.derived-in-PiUCong.ensures refl

pub returns-in-AppCong : goal.returns-in-AppCong
returns-in-AppCong c = λ earlier. answers (λ r. Pi r) earlier label.Left c.args.rule rule.AppCong c.in-AppCong.is _ _ _ c.derived-in-AppCong.result c.derived-in-AppCong.ensures refl

pub returns-in-PiBeta : goal.returns-in-PiBeta
returns-in-PiBeta c = λ earlier. answers (λ r. Pi r) earlier label.Left c.args.rule rule.PiBeta c.in-PiBeta.is _ _ _ c.derived-in-PiBeta.result c.derived-in-PiBeta.ensures refl

pub returns-in-PiEta : goal.returns-in-PiEta
returns-in-PiEta c = λ earlier. answers (λ r. Pi r) earlier label.Left c.args.rule rule.PiEta c.in-PiEta.is _ _ _ c.at_hand.result c.at_hand.ensures refl

pub returns-in-PiTy : goal.returns-in-PiTy
returns-in-PiTy c = λ earlier. one-of (λ r. has_none (Pi r) label.Left) c.args.rule (rule.PiTy ∷ rule.PiU ∷ rule.Lam ∷ rule.App ∷ []) c.in-PiTy.is refl
