use Rattle.std.proofs.Common.{refl, [], ◌∷◌}
use Rattle.theory.specs.declared.rule.RuleName.TheVariants.{Equality}
use Rattle.theory.specs.declared.rule.EqualityRule.TheVariants as rule
use Rattle.presuppositions.specs.declared.source.Label.TheVariants as label
use Rattle.presuppositions.specs.Entries.{has_none}
use Rattle.presuppositions.proofs.EntryLaws.{answers, one-of}
use Rattle.equality_entries.proofs.equality.right_of_equality.Goals as goal

pub returns-in-TyEqRefl : goal.returns-in-TyEqRefl
returns-in-TyEqRefl c = λ earlier. answers (λ r. Equality r) earlier label.Right c.args.rule rule.TyEqRefl c.in-TyEqRefl.is _ _ _ c.at_hand.result c.at_hand.ensures refl

pub returns-in-TyEqSym : goal.returns-in-TyEqSym
returns-in-TyEqSym c = λ earlier. answers (λ r. Equality r) earlier label.Right c.args.rule rule.TyEqSym c.in-TyEqSym.is _ _ _ c.at_hand-in-TyEqSym.result c.at_hand-in-TyEqSym.ensures refl

pub returns-in-TyEqTrans : goal.returns-in-TyEqTrans
returns-in-TyEqTrans c = λ earlier. answers (λ r. Equality r) earlier label.Right c.args.rule rule.TyEqTrans c.in-TyEqTrans.is _ _ _ c.at_hand-in-TyEqTrans.result c.at_hand-in-TyEqTrans.ensures refl

pub returns-in-TmEqRefl : goal.returns-in-TmEqRefl
returns-in-TmEqRefl c = λ earlier. answers (λ r. Equality r) earlier label.Right c.args.rule rule.TmEqRefl c.in-TmEqRefl.is _ _ _ c.at_hand-in-TmEqRefl.result c.at_hand-in-TmEqRefl.ensures refl

pub returns-in-TmEqSym : goal.returns-in-TmEqSym
returns-in-TmEqSym c = λ earlier. answers (λ r. Equality r) earlier label.Right c.args.rule rule.TmEqSym c.in-TmEqSym.is _ _ _ c.at_hand-in-TmEqSym.result c.at_hand-in-TmEqSym.ensures refl

pub returns-in-TmEqTrans : goal.returns-in-TmEqTrans
returns-in-TmEqTrans c = λ earlier. answers (λ r. Equality r) earlier label.Right c.args.rule rule.TmEqTrans c.in-TmEqTrans.is _ _ _ c.at_hand-in-TmEqTrans.result c.at_hand-in-TmEqTrans.ensures refl

pub returns-in-TmEqConv : goal.returns-in-TmEqConv
returns-in-TmEqConv c = λ earlier. answers (λ r. Equality r) earlier label.Right c.args.rule rule.TmEqConv c.in-TmEqConv.is _ _ _ c.derived.result c.derived.ensures refl

pub returns-in-TyEqCover : goal.returns-in-TyEqCover
returns-in-TyEqCover c = λ earlier. answers (λ r. Equality r) earlier label.Right c.args.rule rule.TyEqCover c.in-TyEqCover.is _ _ _ c.at_hand-in-TyEqCover.result c.at_hand-in-TyEqCover.ensures refl

pub returns-in-TmEqCover : goal.returns-in-TmEqCover
returns-in-TmEqCover c = λ earlier. answers (λ r. Equality r) earlier label.Right c.args.rule rule.TmEqCover c.in-TmEqCover.is _ _ _ c.at_hand-in-TmEqCover.result c.at_hand-in-TmEqCover.ensures refl

pub returns-in-TyEqAbsurd : goal.returns-in-TyEqAbsurd
returns-in-TyEqAbsurd c = λ earlier. answers (λ r. Equality r) earlier label.Right c.args.rule rule.TyEqAbsurd c.in-TyEqAbsurd.is _ _ _ c.at_hand-in-TyEqAbsurd.result c.at_hand-in-TyEqAbsurd.ensures refl

pub returns-in-TmEqAbsurd : goal.returns-in-TmEqAbsurd
returns-in-TmEqAbsurd c = λ earlier. answers (λ r. Equality r) earlier label.Right c.args.rule rule.TmEqAbsurd c.in-TmEqAbsurd.is _ _ _ c.at_hand-in-TmEqAbsurd.result c.at_hand-in-TmEqAbsurd.ensures refl

pub returns-in-TmConv : goal.returns-in-TmConv
returns-in-TmConv c = λ earlier. one-of (λ r. has_none (Equality r) label.Right) c.args.rule (rule.TmConv ∷ []) c.in-TmConv.is refl
