use Rattle.std.proofs.Common.{refl, [], ◌∷◌}
use Rattle.theory.specs.declared.rule.RuleName.TheVariants.{Systems}
use Rattle.theory.specs.declared.rule.SystemRule.TheVariants as rule
use Rattle.presuppositions.specs.declared.source.Label.TheVariants as label
use Rattle.presuppositions.specs.Entries.{has_none}
use Rattle.presuppositions.proofs.EntryLaws.{answers, one-of}
use Rattle.comp_entries.proofs.systems.right_of_system.Goals as goal

pub returns-in-SysTyLeft : goal.returns-in-SysTyLeft
returns-in-SysTyLeft c = λ earlier. answers (λ r. Systems r) earlier label.Right c.args.rule rule.SysTyLeft c.in-SysTyLeft.is _ _ _ c.at_hand.result c.at_hand.ensures refl

pub returns-in-SysTyRight : goal.returns-in-SysTyRight
returns-in-SysTyRight c = λ earlier. answers (λ r. Systems r) earlier label.Right c.args.rule rule.SysTyRight c.in-SysTyRight.is _ _ _ c.at_hand-in-SysTyRight.result c.at_hand-in-SysTyRight.ensures refl

pub returns-in-SysLeft : goal.returns-in-SysLeft
returns-in-SysLeft c = λ earlier. answers (λ r. Systems r) earlier label.Right c.args.rule rule.SysLeft c.in-SysLeft.is _ _ _ c.at_hand-in-SysLeft.result c.at_hand-in-SysLeft.ensures refl

pub returns-in-SysRight : goal.returns-in-SysRight
returns-in-SysRight c = λ earlier. answers (λ r. Systems r) earlier label.Right c.args.rule rule.SysRight c.in-SysRight.is _ _ _ c.at_hand-in-SysRight.result c.at_hand-in-SysRight.ensures refl

pub returns-in-SysTy : goal.returns-in-SysTy
returns-in-SysTy c = λ earlier. one-of (λ r. has_none (Systems r) label.Right) c.args.rule (rule.SysTy ∷ rule.SysTm ∷ rule.EmptyTy ∷ rule.EmptyTm ∷ []) c.in-SysTy.is refl
