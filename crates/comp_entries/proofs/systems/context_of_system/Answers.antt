use Rattle.std.proofs.Common.{refl}
use Rattle.theory.specs.declared.rule.RuleName.TheVariants.{Systems}
use Rattle.theory.specs.declared.rule.SystemRule.TheVariants as rule
use Rattle.presuppositions.specs.declared.source.Label.TheVariants as label
use Rattle.presuppositions.proofs.EntryLaws.{answers}
use Rattle.comp_entries.proofs.systems.context_of_system.Goals as goal

pub returns-in-SysTy : goal.returns-in-SysTy
returns-in-SysTy c = λ earlier. answers (λ r. Systems r) earlier label.Context c.args.rule rule.SysTy c.in-SysTy.is _ _ _ c.at_hand.result c.at_hand.ensures refl

pub returns-in-SysTm : goal.returns-in-SysTm
returns-in-SysTm c = λ earlier. answers (λ r. Systems r) earlier label.Context c.args.rule rule.SysTm c.in-SysTm.is _ _ _ c.at_hand-in-SysTm.result c.at_hand-in-SysTm.ensures refl

pub returns-in-SysTyLeft : goal.returns-in-SysTyLeft
returns-in-SysTyLeft c = λ earlier. answers (λ r. Systems r) earlier label.Context c.args.rule rule.SysTyLeft c.in-SysTyLeft.is _ _ _ c.at_hand-in-SysTyLeft.result c.at_hand-in-SysTyLeft.ensures refl

pub returns-in-SysTyRight : goal.returns-in-SysTyRight
returns-in-SysTyRight c = λ earlier. answers (λ r. Systems r) earlier label.Context c.args.rule rule.SysTyRight c.in-SysTyRight.is _ _ _ c.at_hand-in-SysTyRight.result c.at_hand-in-SysTyRight.ensures refl

pub returns-in-SysLeft : goal.returns-in-SysLeft
returns-in-SysLeft c = λ earlier. answers (λ r. Systems r) earlier label.Context c.args.rule rule.SysLeft c.in-SysLeft.is _ _ _ c.at_hand-in-SysLeft.result c.at_hand-in-SysLeft.ensures refl

pub returns-in-SysRight : goal.returns-in-SysRight
returns-in-SysRight c = λ earlier. answers (λ r. Systems r) earlier label.Context c.args.rule rule.SysRight c.in-SysRight.is _ _ _ c.at_hand-in-SysRight.result c.at_hand-in-SysRight.ensures refl

pub returns-in-EmptyTy : goal.returns-in-EmptyTy
returns-in-EmptyTy c = λ earlier. answers (λ r. Systems r) earlier label.Context c.args.rule rule.EmptyTy c.in-EmptyTy.is _ _ _ c.at_hand-in-EmptyTy.result c.at_hand-in-EmptyTy.ensures refl

pub returns-in-EmptyTm : goal.returns-in-EmptyTm
returns-in-EmptyTm c = λ earlier. answers (λ r. Systems r) earlier label.Context c.args.rule rule.EmptyTm c.in-EmptyTm.is _ _ _ c.at_hand-in-EmptyTm.result c.at_hand-in-EmptyTm.ensures refl
