use Rattle.std.proofs.Common.{refl, [], ◌∷◌}
use Rattle.theory.specs.declared.rule.RuleName.TheVariants.{Instances}
use Rattle.theory.specs.declared.rule.InstanceRule.TheVariants as rule
use Rattle.presuppositions.specs.declared.source.Label.TheVariants as label
use Rattle.presuppositions.specs.Entries.{has_none}
use Rattle.presuppositions.proofs.EntryLaws.{answers, one-of}
use Rattle.equality_entries.proofs.instances.right_of_instance.Goals as goal

pub returns-in-TyEqSub : goal.returns-in-TyEqSub
returns-in-TyEqSub c = λ earlier. answers (λ r. Instances r) earlier label.Right c.args.rule rule.TyEqSub c.in-TyEqSub.is _ _ _ c.derived.result c.derived.ensures refl

pub returns-in-TmEqSub : goal.returns-in-TmEqSub
returns-in-TmEqSub c = λ earlier. answers (λ r. Instances r) earlier label.Right c.args.rule rule.TmEqSub c.in-TmEqSub.is _ _ _ c.derived-in-TmEqSub.result c.derived-in-TmEqSub.ensures refl

pub returns-in-TyCong : goal.returns-in-TyCong
returns-in-TyCong c = λ earlier. answers (λ r. Instances r) earlier label.Right c.args.rule rule.TyCong c.in-TyCong.is _ _ _ c.derived-in-TyCong.result c.derived-in-TyCong.ensures refl

pub returns-in-TmCong : goal.returns-in-TmCong
returns-in-TmCong c = λ earlier. answers (λ r. Instances r) earlier label.Right c.args.rule rule.TmCong c.in-TmCong.is _ _ _ c.derived-in-TmCong.result c.derived-in-TmCong.ensures refl

pub returns-in-TyInt : goal.returns-in-TyInt
returns-in-TyInt c = λ earlier. answers (λ r. Instances r) earlier label.Right c.args.rule rule.TyInt c.in-TyInt.is _ _ _ c.derived-in-TyInt.result c.derived-in-TyInt.ensures refl

pub returns-in-TmInt : goal.returns-in-TmInt
returns-in-TmInt c = λ earlier. answers (λ r. Instances r) earlier label.Right c.args.rule rule.TmInt c.in-TmInt.is _ _ _ c.derived-in-TmInt.result c.derived-in-TmInt.ensures refl

pub returns-in-TySub : goal.returns-in-TySub
returns-in-TySub c = λ earlier. one-of (λ r. has_none (Instances r) label.Right) c.args.rule (rule.TySub ∷ rule.TmSub ∷ rule.TmVar ∷ []) c.in-TySub.is refl
