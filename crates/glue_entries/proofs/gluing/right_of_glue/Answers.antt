use Rattle.std.proofs.Common.{refl, [], ◌∷◌}
use Rattle.theory.specs.declared.rule.RuleName.TheVariants.{Gluing}
use Rattle.theory.specs.declared.rule.GlueRule.TheVariants as rule
use Rattle.presuppositions.specs.declared.source.Label.TheVariants as label
use Rattle.presuppositions.specs.Entries.{has_none}
use Rattle.presuppositions.proofs.EntryLaws.{answers, one-of}
use Rattle.glue_entries.specs.Statements.{equiv_tycong_statement}
use Rattle.glue_entries.proofs.gluing.right_of_glue.Goals as goal

pub returns-in-GlueTyFace : goal.returns-in-GlueTyFace
returns-in-GlueTyFace c = answers (λ r. Gluing r) (equiv_tycong_statement ∷ []) label.Right c.args.rule rule.GlueTyFace c.in-GlueTyFace.is _ _ _ c.at_hand.result c.at_hand.ensures refl

pub returns-in-GlueUFace : goal.returns-in-GlueUFace
returns-in-GlueUFace c = answers (λ r. Gluing r) (equiv_tycong_statement ∷ []) label.Right c.args.rule rule.GlueUFace c.in-GlueUFace.is _ _ _ c.at_hand-in-GlueUFace.result c.at_hand-in-GlueUFace.ensures refl

pub returns-in-GlueTyCong : goal.returns-in-GlueTyCong
returns-in-GlueTyCong c = answers (λ r. Gluing r) (equiv_tycong_statement ∷ []) label.Right c.args.rule rule.GlueTyCong c.in-GlueTyCong.is _ _ _ c.derived.result c.derived.ensures refl

pub returns-in-GlueUCong : goal.returns-in-GlueUCong
returns-in-GlueUCong c = answers (λ r. Gluing r) (equiv_tycong_statement ∷ []) label.Right c.args.rule rule.GlueUCong c.in-GlueUCong.is _ _ _ c.derived-in-GlueUCong.result c.derived-in-GlueUCong.ensures refl

pub returns-in-GlueFace : goal.returns-in-GlueFace
returns-in-GlueFace c = answers (λ r. Gluing r) (equiv_tycong_statement ∷ []) label.Right c.args.rule rule.GlueFace c.in-GlueFace.is _ _ _ c.at_hand-in-GlueFace.result c.at_hand-in-GlueFace.ensures refl

pub returns-in-UnglueFace : goal.returns-in-UnglueFace
returns-in-UnglueFace c = answers (λ r. Gluing r) (equiv_tycong_statement ∷ []) label.Right c.args.rule rule.UnglueFace c.in-UnglueFace.is _ _ _ c.derived-in-UnglueFace.result c.derived-in-UnglueFace.ensures refl

pub returns-in-UnglueCong : goal.returns-in-UnglueCong
returns-in-UnglueCong c = answers (λ r. Gluing r) (equiv_tycong_statement ∷ []) label.Right c.args.rule rule.UnglueCong c.in-UnglueCong.is _ _ _ c.derived-in-UnglueCong.result c.derived-in-UnglueCong.ensures refl

pub returns-in-GlueBeta : goal.returns-in-GlueBeta
returns-in-GlueBeta c = answers (λ r. Gluing r) (equiv_tycong_statement ∷ []) label.Right c.args.rule rule.GlueBeta c.in-GlueBeta.is _ _ _ c.at_hand-in-GlueBeta.result c.at_hand-in-GlueBeta.ensures refl

pub returns-in-GlueEta : goal.returns-in-GlueEta
returns-in-GlueEta c = answers (λ r. Gluing r) (equiv_tycong_statement ∷ []) label.Right c.args.rule rule.GlueEta c.in-GlueEta.is _ _ _ c.at_hand-in-GlueEta.result c.at_hand-in-GlueEta.ensures refl

pub returns-in-GlueTy : goal.returns-in-GlueTy
returns-in-GlueTy c = one-of (λ r. has_none (Gluing r) label.Right) c.args.rule (rule.GlueTy ∷ rule.GlueU ∷ rule.Glue ∷ rule.Unglue ∷ []) c.in-GlueTy.is refl
