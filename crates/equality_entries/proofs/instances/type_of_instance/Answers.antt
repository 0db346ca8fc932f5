use Rattle.std.proofs.Common.{refl, [], ◌∷◌}
use Rattle.theory.specs.declared.rule.RuleName.TheVariants.{Instances}
use Rattle.theory.specs.declared.rule.InstanceRule.TheVariants as rule
use Rattle.presuppositions.specs.declared.source.Label.TheVariants as label
use Rattle.presuppositions.specs.Entries.{has_none}
use Rattle.presuppositions.proofs.EntryLaws.{answers, one-of}
use Rattle.equality_entries.proofs.instances.type_of_instance.Goals as goal

pub returns-in-TmSub : goal.returns-in-TmSub
returns-in-TmSub c = λ earlier. answers (λ r. Instances r) earlier label.Type c.args.rule rule.TmSub c.in-TmSub.is _ _ _ c.derived.result c.derived.ensures refl

pub returns-in-TmEqSub : goal.returns-in-TmEqSub
returns-in-TmEqSub c = λ earlier. answers (λ r. Instances r) earlier label.Type c.args.rule rule.TmEqSub c.in-TmEqSub.is _ _ _ c.derived-in-TmEqSub.result c.derived-in-TmEqSub.ensures refl

pub returns-in-TmCong : goal.returns-in-TmCong
returns-in-TmCong c = λ earlier. answers (λ r. Instances r) earlier label.Type c.args.rule rule.TmCong c.in-TmCong.is _ _ _ c.derived-in-TmCong.result c.derived-in-TmCong.ensures refl

pub returns-in-TmInt : goal.returns-in-TmInt
returns-in-TmInt c = λ earlier. answers (λ r. Instances r) earlier label.Type c.args.rule rule.TmInt c.in-TmInt.is _ _ _ c.derived-in-TmInt.result c.derived-in-TmInt.ensures refl

pub returns-in-TmVar : goal.returns-in-TmVar
returns-in-TmVar c = λ earlier. answers (λ r. Instances r) earlier label.Type c.args.rule rule.TmVar c.in-TmVar.is _ _ _ c.derived-in-TmVar.result c.derived-in-TmVar.ensures refl

pub returns-in-TySub : goal.returns-in-TySub
returns-in-TySub c = λ earlier. one-of (λ r. has_none (Instances r) label.Type) c.args.rule (rule.TySub ∷ rule.TyEqSub ∷ rule.TyCong ∷ rule.TyInt ∷ []) c.in-TySub.is refl
