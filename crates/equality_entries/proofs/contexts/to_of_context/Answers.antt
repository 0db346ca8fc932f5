use Rattle.std.proofs.Common.{refl, [], ◌∷◌}
use Rattle.theory.specs.declared.rule.RuleName.TheVariants.{Contexts}
use Rattle.theory.specs.declared.rule.ContextRule.TheVariants as rule
use Rattle.presuppositions.specs.declared.source.Label.TheVariants as label
use Rattle.presuppositions.specs.Entries.{has_none}
use Rattle.presuppositions.proofs.EntryLaws.{answers, one-of}
use Rattle.equality_entries.proofs.contexts.to_of_context.Goals as goal

pub returns-in-SubId : goal.returns-in-SubId
returns-in-SubId c = λ earlier. answers (λ r. Contexts r) earlier label.To c.args.rule rule.SubId c.in-SubId.is _ _ _ c.at_hand.result c.at_hand.ensures refl

pub returns-in-SubWk : goal.returns-in-SubWk
returns-in-SubWk c = λ earlier. answers (λ r. Contexts r) earlier label.To c.args.rule rule.SubWk c.in-SubWk.is _ _ _ c.at_hand-in-SubWk.result c.at_hand-in-SubWk.ensures refl

pub returns-in-SubWkName : goal.returns-in-SubWkName
returns-in-SubWkName c = λ earlier. answers (λ r. Contexts r) earlier label.To c.args.rule rule.SubWkName c.in-SubWkName.is _ _ _ c.at_hand-in-SubWkName.result c.at_hand-in-SubWkName.ensures refl

pub returns-in-SubWkFace : goal.returns-in-SubWkFace
returns-in-SubWkFace c = λ earlier. answers (λ r. Contexts r) earlier label.To c.args.rule rule.SubWkFace c.in-SubWkFace.is _ _ _ c.at_hand-in-SubWkFace.result c.at_hand-in-SubWkFace.ensures refl

pub returns-in-SubVar : goal.returns-in-SubVar
returns-in-SubVar c = λ earlier. answers (λ r. Contexts r) earlier label.To c.args.rule rule.SubVar c.in-SubVar.is _ _ _ c.derived.result c.derived.ensures refl

pub returns-in-SubForm : goal.returns-in-SubForm
returns-in-SubForm c = λ earlier. answers (λ r. Contexts r) earlier label.To c.args.rule rule.SubForm c.in-SubForm.is _ _ _ c.derived-in-SubForm.result c.derived-in-SubForm.ensures refl

pub returns-in-SubFace : goal.returns-in-SubFace
returns-in-SubFace c = λ earlier. answers (λ r. Contexts r) earlier label.To c.args.rule rule.SubFace c.in-SubFace.is _ _ _ c.derived-in-SubFace.result c.derived-in-SubFace.ensures refl

pub returns-in-SubComp : goal.returns-in-SubComp
returns-in-SubComp c = λ earlier. answers (λ r. Contexts r) earlier label.To c.args.rule rule.SubComp c.in-SubComp.is _ _ _ c.at_hand-in-SubComp.result c.at_hand-in-SubComp.ensures refl

pub returns-in-CtxNil : goal.returns-in-CtxNil
returns-in-CtxNil c = λ earlier. one-of (λ r. has_none (Contexts r) label.To) c.args.rule (rule.CtxNil ∷ rule.CtxVar ∷ rule.CtxName ∷ rule.CtxFace ∷ []) c.in-CtxNil.is refl
