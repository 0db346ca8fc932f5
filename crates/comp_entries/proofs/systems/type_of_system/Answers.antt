use Rattle.std.proofs.Common.{refl, [], ◌∷◌}
use Rattle.theory.specs.declared.rule.RuleName.TheVariants.{Systems}
use Rattle.theory.specs.declared.rule.SystemRule.TheVariants as rule
use Rattle.presuppositions.specs.declared.source.Label.TheVariants as label
use Rattle.presuppositions.specs.Entries.{has_none}
use Rattle.presuppositions.proofs.EntryLaws.{answers, one-of}
use Rattle.comp_entries.proofs.systems.type_of_system.Goals as goal

pub returns-in-SysTm : goal.returns-in-SysTm
returns-in-SysTm c = λ earlier. answers (λ r. Systems r) earlier label.Type c.args.rule rule.SysTm c.in-SysTm.is _ _ _ c.at_hand.result c.at_hand.ensures refl

pub returns-in-SysLeft : goal.returns-in-SysLeft
returns-in-SysLeft c = λ earlier. answers (λ r. Systems r) earlier label.Type c.args.rule rule.SysLeft c.in-SysLeft.is _ _ _ c.at_hand-in-SysLeft.result c.at_hand-in-SysLeft.ensures refl

pub returns-in-SysRight : goal.returns-in-SysRight
returns-in-SysRight c = λ earlier. answers (λ r. Systems r) earlier label.Type c.args.rule rule.SysRight c.in-SysRight.is _ _ _ c.at_hand-in-SysRight.result c.at_hand-in-SysRight.ensures refl

pub returns-in-EmptyTm : goal.returns-in-EmptyTm
returns-in-EmptyTm c = λ earlier. answers (λ r. Systems r) earlier label.Type c.args.rule rule.EmptyTm c.in-EmptyTm.is _ _ _ c.at_hand-in-EmptyTm.result c.at_hand-in-EmptyTm.ensures refl

pub returns-in-SysTy : goal.returns-in-SysTy
returns-in-SysTy c = λ earlier. one-of (λ r. has_none (Systems r) label.Type) c.args.rule (rule.SysTy ∷ rule.SysTyLeft ∷ rule.SysTyRight ∷ rule.EmptyTy ∷ []) c.in-SysTy.is refl
