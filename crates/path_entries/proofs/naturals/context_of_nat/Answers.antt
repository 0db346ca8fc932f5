use Rattle.std.proofs.Common.{refl}
use Rattle.theory.specs.declared.rule.RuleName.TheVariants.{Naturals}
use Rattle.theory.specs.declared.rule.NatRule.TheVariants as rule
use Rattle.presuppositions.specs.declared.source.Label.TheVariants as label
use Rattle.presuppositions.proofs.EntryLaws.{answers}
use Rattle.path_entries.proofs.naturals.context_of_nat.Goals as goal

pub returns-in-NatU : goal.returns-in-NatU
returns-in-NatU c = λ earlier. answers (λ r. Naturals r) earlier label.Context c.args.rule rule.NatU c.in-NatU.is _ _ _ c.at_hand.result c.at_hand.ensures refl

pub returns-in-Zero : goal.returns-in-Zero
returns-in-Zero c = λ earlier. answers (λ r. Naturals r) earlier label.Context c.args.rule rule.Zero c.in-Zero.is _ _ _ c.at_hand-in-Zero.result c.at_hand-in-Zero.ensures refl

pub returns-in-Suc : goal.returns-in-Suc
returns-in-Suc c = λ earlier. answers (λ r. Naturals r) earlier label.Context c.args.rule rule.Suc c.in-Suc.is _ _ _ c.at_hand-in-Suc.result c.at_hand-in-Suc.ensures refl

pub returns-in-SucCong : goal.returns-in-SucCong
returns-in-SucCong c = λ earlier. answers (λ r. Naturals r) earlier label.Context c.args.rule rule.SucCong c.in-SucCong.is _ _ _ c.at_hand-in-SucCong.result c.at_hand-in-SucCong.ensures refl

pub returns-in-NatRec : goal.returns-in-NatRec
returns-in-NatRec c = λ earlier. answers (λ r. Naturals r) earlier label.Context c.args.rule rule.NatRec c.in-NatRec.is _ _ _ c.at_hand-in-NatRec.result c.at_hand-in-NatRec.ensures refl

pub returns-in-NatRecCong : goal.returns-in-NatRecCong
returns-in-NatRecCong c = λ earlier. answers (λ r. Naturals r) earlier label.Context c.args.rule rule.NatRecCong c.in-NatRecCong.is _ _ _ c.at_hand-in-NatRecCong.result c.at_hand-in-NatRecCong.ensures refl

pub returns-in-NatRecZero : goal.returns-in-NatRecZero
returns-in-NatRecZero c = λ earlier. answers (λ r. Naturals r) earlier label.Context c.args.rule rule.NatRecZero c.in-NatRecZero.is _ _ _ c.at_hand-in-NatRecZero.result c.at_hand-in-NatRecZero.ensures refl

pub returns-in-NatRecSuc : goal.returns-in-NatRecSuc
returns-in-NatRecSuc c = λ earlier. answers (λ r. Naturals r) earlier label.Context c.args.rule rule.NatRecSuc c.in-NatRecSuc.is _ _ _ c.at_hand-in-NatRecSuc.result c.at_hand-in-NatRecSuc.ensures refl
