use Rattle.std.proofs.Common.{refl, [], ◌∷◌}
use Rattle.theory.specs.declared.rule.RuleName.TheVariants.{Paths}
use Rattle.theory.specs.declared.rule.PathRule.TheVariants as rule
use Rattle.presuppositions.specs.declared.source.Label.TheVariants as label
use Rattle.presuppositions.specs.Entries.{has_none}
use Rattle.presuppositions.proofs.EntryLaws.{answers, one-of}
use Rattle.path_entries.proofs.paths.line_of_path.Goals as goal

pub returns-in-PathTy : goal.returns-in-PathTy
returns-in-PathTy c = λ earlier. answers (λ r. Paths r) earlier label.Line c.args.rule rule.PathTy c.in-PathTy.is _ _ _ c.at_hand.result c.at_hand.ensures refl

pub returns-in-PathU : goal.returns-in-PathU
returns-in-PathU c = λ earlier. one-of (λ r. has_none (Paths r) label.Line) c.args.rule (rule.PathU ∷ rule.PathTyCong ∷ rule.PathUCong ∷ rule.PLam ∷ rule.PApp ∷ rule.PAppCong ∷ rule.PathLeft ∷ rule.PathRight ∷ rule.PathBeta ∷ rule.PathEta ∷ []) c.in-PathU.is refl
