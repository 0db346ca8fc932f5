use Rattle.std.proofs.Common.{refl, [], ◌∷◌}
use Rattle.theory.specs.declared.rule.RuleName.TheVariants.{Composition}
use Rattle.theory.specs.declared.rule.CompRule.TheVariants as rule
use Rattle.presuppositions.specs.declared.source.Label.TheVariants as label
use Rattle.presuppositions.specs.Entries.{has_none}
use Rattle.presuppositions.proofs.EntryLaws.{answers, one-of}
use Rattle.comp_entries.proofs.composition.left_of_comp.Goals as goal

pub returns-in-CompFace : goal.returns-in-CompFace
returns-in-CompFace c = λ earlier. answers (λ r. Composition r) earlier label.Left c.args.rule rule.CompFace c.in-CompFace.is _ _ _ c.derived.result c.derived.ensures refl

pub returns-in-CompCong : goal.returns-in-CompCong
returns-in-CompCong c = λ earlier. answers (λ r. Composition r) earlier label.Left c.args.rule rule.CompCong c.in-CompCong.is _ _ _ c.derived-in-CompCong.result c.derived-in-CompCong.ensures refl

pub returns-in-CompPi : goal.returns-in-CompPi
returns-in-CompPi c = λ earlier. answers (λ r. Composition r) earlier label.Left c.args.rule rule.CompPi c.in-CompPi.is _ _ _ c.derived-in-CompPi.result c.derived-in-CompPi.ensures refl

pub returns-in-CompSig : goal.returns-in-CompSig
returns-in-CompSig c = λ earlier. answers (λ r. Composition r) earlier label.Left c.args.rule rule.CompSig c.in-CompSig.is _ _ _ c.derived-in-CompSig.result c.derived-in-CompSig.ensures refl

pub returns-in-CompPath : goal.returns-in-CompPath
returns-in-CompPath c = λ earlier. answers (λ r. Composition r) earlier label.Left c.args.rule rule.CompPath c.in-CompPath.is _ _ _ c.derived-in-CompPath.result c.derived-in-CompPath.ensures refl

pub returns-in-CompZero : goal.returns-in-CompZero
returns-in-CompZero c = λ earlier. answers (λ r. Composition r) earlier label.Left c.args.rule rule.CompZero c.in-CompZero.is _ _ _ c.derived-in-CompZero.result c.derived-in-CompZero.ensures refl

pub returns-in-CompSuc : goal.returns-in-CompSuc
returns-in-CompSuc c = λ earlier. answers (λ r. Composition r) earlier label.Left c.args.rule rule.CompSuc c.in-CompSuc.is _ _ _ c.derived-in-CompSuc.result c.derived-in-CompSuc.ensures refl

pub returns-in-CompGlue : goal.returns-in-CompGlue
returns-in-CompGlue c = λ earlier. answers (λ r. Composition r) earlier label.Left c.args.rule rule.CompGlue c.in-CompGlue.is _ _ _ c.derived-in-CompGlue.result c.derived-in-CompGlue.ensures refl

pub returns-in-CompU : goal.returns-in-CompU
returns-in-CompU c = λ earlier. answers (λ r. Composition r) earlier label.Left c.args.rule rule.CompU c.in-CompU.is _ _ _ c.derived-in-CompU.result c.derived-in-CompU.ensures refl

pub returns-in-Comp : goal.returns-in-Comp
returns-in-Comp c = λ earlier. one-of (λ r. has_none (Composition r) label.Left) c.args.rule (rule.Comp ∷ []) c.in-Comp.is refl
