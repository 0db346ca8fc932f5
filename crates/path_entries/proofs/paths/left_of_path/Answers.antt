use Rattle.std.proofs.Common.{refl, [], ◌∷◌}
use Rattle.theory.specs.declared.rule.RuleName.TheVariants.{Paths}
use Rattle.theory.specs.declared.rule.PathRule.TheVariants as rule
use Rattle.presuppositions.specs.declared.source.Label.TheVariants as label
use Rattle.presuppositions.specs.Entries.{has_none}
use Rattle.presuppositions.proofs.EntryLaws.{answers, one-of}
use Rattle.path_entries.proofs.paths.left_of_path.Goals as goal

pub returns-in-PathTyCong : goal.returns-in-PathTyCong
returns-in-PathTyCong c = λ earlier. answers (λ r. Paths r) earlier label.Left c.args.rule rule.PathTyCong c.in-PathTyCong.is _ _ _ c.derived.result c.derived.ensures refl

pub returns-in-PathUCong : goal.returns-in-PathUCong
returns-in-PathUCong c = λ earlier. answers (λ r. Paths r) earlier label.Left c.args.rule rule.PathUCong c.in-PathUCong.is _ _ _ c.derived-in-PathUCong.result c.derived-in-PathUCong.ensures refl

pub returns-in-PAppCong : goal.returns-in-PAppCong
returns-in-PAppCong c = λ earlier. answers (λ r. Paths r) earlier label.Left c.args.rule rule.PAppCong c.in-PAppCong.is _ _ _ c.derived-in-PAppCong.result c.derived-in-PAppCong.ensures refl

pub returns-in-PathLeft : goal.returns-in-PathLeft
returns-in-PathLeft c = λ earlier. answers (λ r. Paths r) earlier label.Left c.args.rule rule.PathLeft c.in-PathLeft.is _ _ _ c.derived-in-PathLeft.result c.derived-in-PathLeft.ensures refl

pub returns-in-PathRight : goal.returns-in-PathRight
returns-in-PathRight c = λ earlier. answers (λ r. Paths r) earlier label.Left c.args.rule rule.PathRight c.in-PathRight.is _ _ _ c.derived-in-PathRight.result c.derived-in-PathRight.ensures refl

pub returns-in-PathBeta : goal.returns-in-PathBeta
returns-in-PathBeta c = λ earlier. answers (λ r. Paths r) earlier label.Left c.args.rule rule.PathBeta c.in-PathBeta.is _ _ _ c.derived-in-PathBeta.result c.derived-in-PathBeta.ensures refl

pub returns-in-PathEta : goal.returns-in-PathEta
returns-in-PathEta c = λ earlier. answers (λ r. Paths r) earlier label.Left c.args.rule rule.PathEta c.in-PathEta.is _ _ _ c.at_hand.result c.at_hand.ensures refl

pub returns-in-PathTy : goal.returns-in-PathTy
returns-in-PathTy c = λ earlier. one-of (λ r. has_none (Paths r) label.Left) c.args.rule (rule.PathTy ∷ rule.PathU ∷ rule.PLam ∷ rule.PApp ∷ []) c.in-PathTy.is refl
