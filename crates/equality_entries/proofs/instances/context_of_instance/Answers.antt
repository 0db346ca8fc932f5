use Rattle.std.proofs.Common.{refl}
use Rattle.theory.specs.declared.rule.RuleName.TheVariants.{Instances}
use Rattle.theory.specs.declared.rule.InstanceRule.TheVariants as rule
use Rattle.presuppositions.specs.declared.source.Label.TheVariants as label
use Rattle.presuppositions.proofs.EntryLaws.{answers}
use Rattle.equality_entries.proofs.instances.context_of_instance.Goals as goal

pub returns-in-TySub : goal.returns-in-TySub
returns-in-TySub c = λ earlier. answers (λ r. Instances r) earlier label.Context c.args.rule rule.TySub c.in-TySub.is _ _ _ c.at_hand.result c.at_hand.ensures refl

pub returns-in-TyEqSub : goal.returns-in-TyEqSub
returns-in-TyEqSub c = λ earlier. answers (λ r. Instances r) earlier label.Context c.args.rule rule.TyEqSub c.in-TyEqSub.is _ _ _ c.at_hand-in-TyEqSub.result c.at_hand-in-TyEqSub.ensures refl

pub returns-in-TmSub : goal.returns-in-TmSub
returns-in-TmSub c = λ earlier. answers (λ r. Instances r) earlier label.Context c.args.rule rule.TmSub c.in-TmSub.is _ _ _ c.at_hand-in-TmSub.result c.at_hand-in-TmSub.ensures refl

pub returns-in-TmEqSub : goal.returns-in-TmEqSub
returns-in-TmEqSub c = λ earlier. answers (λ r. Instances r) earlier label.Context c.args.rule rule.TmEqSub c.in-TmEqSub.is _ _ _ c.at_hand-in-TmEqSub.result c.at_hand-in-TmEqSub.ensures refl

pub returns-in-TyCong : goal.returns-in-TyCong
returns-in-TyCong c = λ earlier. answers (λ r. Instances r) earlier label.Context c.args.rule rule.TyCong c.in-TyCong.is _ _ _ c.at_hand-in-TyCong.result c.at_hand-in-TyCong.ensures refl

pub returns-in-TmCong : goal.returns-in-TmCong
returns-in-TmCong c = λ earlier. answers (λ r. Instances r) earlier label.Context c.args.rule rule.TmCong c.in-TmCong.is _ _ _ c.at_hand-in-TmCong.result c.at_hand-in-TmCong.ensures refl

pub returns-in-TyInt : goal.returns-in-TyInt
returns-in-TyInt c = λ earlier. answers (λ r. Instances r) earlier label.Context c.args.rule rule.TyInt c.in-TyInt.is _ _ _ c.at_hand-in-TyInt.result c.at_hand-in-TyInt.ensures refl

pub returns-in-TmInt : goal.returns-in-TmInt
returns-in-TmInt c = λ earlier. answers (λ r. Instances r) earlier label.Context c.args.rule rule.TmInt c.in-TmInt.is _ _ _ c.at_hand-in-TmInt.result c.at_hand-in-TmInt.ensures refl

pub returns-in-TmVar : goal.returns-in-TmVar
returns-in-TmVar c = λ earlier. answers (λ r. Instances r) earlier label.Context c.args.rule rule.TmVar c.in-TmVar.is _ _ _ c.derived.result c.derived.ensures refl
