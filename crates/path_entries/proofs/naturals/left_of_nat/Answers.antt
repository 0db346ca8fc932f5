use Rattle.std.proofs.Common.{refl, [], ◌∷◌}
use Rattle.theory.specs.declared.rule.RuleName.TheVariants.{Naturals}
use Rattle.theory.specs.declared.rule.NatRule.TheVariants as rule
use Rattle.presuppositions.specs.declared.source.Label.TheVariants as label
use Rattle.presuppositions.specs.Entries.{has_none}
use Rattle.presuppositions.proofs.EntryLaws.{answers, one-of}
use Rattle.path_entries.proofs.naturals.left_of_nat.Goals as goal

pub returns-in-SucCong : goal.returns-in-SucCong
returns-in-SucCong c = λ earlier. answers (λ r. Naturals r) earlier label.Left c.args.rule rule.SucCong c.in-SucCong.is _ _ _ c.derived.result c.derived.ensures refl

pub returns-in-NatRecCong : goal.returns-in-NatRecCong
returns-in-NatRecCong c = λ earlier. answers (λ r. Naturals r) earlier label.Left c.args.rule rule.NatRecCong c.in-NatRecCong.is _ _ _ c.derived-in-NatRecCong.result c.derived-in-NatRecCong.ensures refl

pub returns-in-NatRecZero : goal.returns-in-NatRecZero
returns-in-NatRecZero c = λ earlier. answers (λ r. Naturals r) earlier label.Left c.args.rule rule.NatRecZero c.in-NatRecZero.is _ _ _ c.derived-in-NatRecZero.result c.derived-in-NatRecZero.ensures refl

pub returns-in-NatRecSuc : goal.returns-in-NatRecSuc
returns-in-NatRecSuc c = λ earlier. answers (λ r. Naturals r) earlier label.Left c.args.rule rule.NatRecSuc c.in-NatRecSuc.is _ _ _ c.derived-in-NatRecSuc.result c.derived-in-NatRecSuc.ensures refl

pub returns-in-NatU : goal.returns-in-NatU
returns-in-NatU c = λ earlier. one-of (λ r. has_none (Naturals r) label.Left) c.args.rule (rule.NatU ∷ rule.Zero ∷ rule.Suc ∷ rule.NatRec ∷ []) c.in-NatU.is refl
