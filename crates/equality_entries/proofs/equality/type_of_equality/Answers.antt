use Rattle.std.proofs.Common.{refl, [], ◌∷◌}
use Rattle.theory.specs.declared.rule.RuleName.TheVariants.{Equality}
use Rattle.theory.specs.declared.rule.EqualityRule.TheVariants as rule
use Rattle.presuppositions.specs.declared.source.Label.TheVariants as label
use Rattle.presuppositions.specs.Entries.{has_none}
use Rattle.presuppositions.proofs.EntryLaws.{answers, one-of}
use Rattle.equality_entries.proofs.equality.type_of_equality.Goals as goal

pub returns-in-TmEqRefl : goal.returns-in-TmEqRefl
returns-in-TmEqRefl c = λ earlier. answers (λ r. Equality r) earlier label.Type c.args.rule rule.TmEqRefl c.in-TmEqRefl.is _ _ _ c.at_hand.result c.at_hand.ensures refl

pub returns-in-TmEqSym : goal.returns-in-TmEqSym
returns-in-TmEqSym c = λ earlier. answers (λ r. Equality r) earlier label.Type c.args.rule rule.TmEqSym c.in-TmEqSym.is _ _ _ c.at_hand-in-TmEqSym.result c.at_hand-in-TmEqSym.ensures refl

pub returns-in-TmEqTrans : goal.returns-in-TmEqTrans
returns-in-TmEqTrans c = λ earlier. answers (λ r. Equality r) earlier label.Type c.args.rule rule.TmEqTrans c.in-TmEqTrans.is _ _ _ c.at_hand-in-TmEqTrans.result c.at_hand-in-TmEqTrans.ensures refl

pub returns-in-TmConv : goal.returns-in-TmConv
returns-in-TmConv c = λ earlier. answers (λ r. Equality r) earlier label.Type c.args.rule rule.TmConv c.in-TmConv.is _ _ _ c.at_hand-in-TmConv.result c.at_hand-in-TmConv.ensures refl

pub returns-in-TmEqConv : goal.returns-in-TmEqConv
returns-in-TmEqConv c = λ earlier. answers (λ r. Equality r) earlier label.Type c.args.rule rule.TmEqConv c.in-TmEqConv.is _ _ _ c.at_hand-in-TmEqConv.result c.at_hand-in-TmEqConv.ensures refl

pub returns-in-TmEqCover : goal.returns-in-TmEqCover
returns-in-TmEqCover c = λ earlier. answers (λ r. Equality r) earlier label.Type c.args.rule rule.TmEqCover c.in-TmEqCover.is _ _ _ c.at_hand-in-TmEqCover.result c.at_hand-in-TmEqCover.ensures refl

pub returns-in-TmEqAbsurd : goal.returns-in-TmEqAbsurd
returns-in-TmEqAbsurd c = λ earlier. answers (λ r. Equality r) earlier label.Type c.args.rule rule.TmEqAbsurd c.in-TmEqAbsurd.is _ _ _ c.at_hand-in-TmEqAbsurd.result c.at_hand-in-TmEqAbsurd.ensures refl

pub returns-in-TyEqRefl : goal.returns-in-TyEqRefl
returns-in-TyEqRefl c = λ earlier. one-of (λ r. has_none (Equality r) label.Type) c.args.rule (rule.TyEqRefl ∷ rule.TyEqSym ∷ rule.TyEqTrans ∷ rule.TyEqCover ∷ rule.TyEqAbsurd ∷ []) c.in-TyEqRefl.is refl
