use Rattle.std.proofs.Common.{refl, [], ◌∷◌}
use Rattle.theory.specs.declared.rule.RuleName.TheVariants.{Composition}
use Rattle.theory.specs.declared.rule.CompRule.TheVariants as rule
use Rattle.presuppositions.specs.declared.source.Label.TheVariants as label
use Rattle.presuppositions.specs.Entries.{has_none}
use Rattle.presuppositions.proofs.EntryLaws.{answers, one-of}
use Rattle.comp_entries.proofs.composition.right_of_comp.Goals as goal

pub returns-in-CompFace : goal.returns-in-CompFace
returns-in-CompFace c = λ earlier. answers (λ r. Composition r) earlier label.Right c.args.rule rule.CompFace c.in-CompFace.is _ _ _ c.derived.result c.derived.ensures refl

pub returns-in-CompCong : goal.returns-in-CompCong
returns-in-CompCong c = λ earlier. answers (λ r. Composition r) earlier label.Right c.args.rule rule.CompCong c.in-CompCong.is _ _ _ c.derived-in-CompCong.result c.derived-in-CompCong.ensures refl

pub returns-in-CompZero : goal.returns-in-CompZero
returns-in-CompZero c = λ earlier. answers (λ r. Composition r) earlier label.Right c.args.rule rule.CompZero c.in-CompZero.is _ _ _ c.derived-in-CompZero.result c.derived-in-CompZero.ensures refl

pub returns-in-CompSuc : goal.returns-in-CompSuc
returns-in-CompSuc c = λ earlier. answers (λ r. Composition r) earlier label.Right c.args.rule rule.CompSuc c.in-CompSuc.is _ _ _ c.derived-in-CompSuc.result c.derived-in-CompSuc.ensures refl

pub returns-in-Comp : goal.returns-in-Comp
returns-in-Comp c = λ earlier. one-of (λ r. has_none (Composition r) label.Right) c.args.rule (rule.Comp ∷ rule.CompPi ∷ rule.CompSig ∷ rule.CompPath ∷ rule.CompGlue ∷ rule.CompU ∷ []) c.in-Comp.is refl
