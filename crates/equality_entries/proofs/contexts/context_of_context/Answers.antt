use Rattle.std.proofs.Common.{refl, [], ◌∷◌}
use Rattle.theory.specs.declared.rule.RuleName.TheVariants.{Contexts}
use Rattle.theory.specs.declared.rule.ContextRule.TheVariants as rule
use Rattle.presuppositions.specs.declared.source.Label.TheVariants as label
use Rattle.presuppositions.specs.Entries.{has_none}
use Rattle.presuppositions.proofs.EntryLaws.{answers, one-of}
use Rattle.equality_entries.proofs.contexts.context_of_context.Goals as goal

pub returns-in-CtxVar : goal.returns-in-CtxVar
returns-in-CtxVar c = λ earlier. answers (λ r. Contexts r) earlier label.Context c.args.rule rule.CtxVar c.in-CtxVar.is _ _ _ c.at_hand.result c.at_hand.ensures refl

pub returns-in-CtxName : goal.returns-in-CtxName
returns-in-CtxName c = λ earlier. answers (λ r. Contexts r) earlier label.Context c.args.rule rule.CtxName c.in-CtxName.is _ _ _ c.at_hand-in-CtxName.result c.at_hand-in-CtxName.ensures refl

pub returns-in-CtxFace : goal.returns-in-CtxFace
returns-in-CtxFace c = λ earlier. answers (λ r. Contexts r) earlier label.Context c.args.rule rule.CtxFace c.in-CtxFace.is _ _ _ c.at_hand-in-CtxFace.result c.at_hand-in-CtxFace.ensures refl

pub returns-in-CtxNil : goal.returns-in-CtxNil
returns-in-CtxNil c = λ earlier. one-of (λ r. has_none (Contexts r) label.Context) c.args.rule (rule.CtxNil ∷ rule.SubId ∷ rule.SubWk ∷ rule.SubWkName ∷ rule.SubWkFace ∷ rule.SubVar ∷ rule.SubForm ∷ rule.SubFace ∷ rule.SubComp ∷ []) c.in-CtxNil.is refl
