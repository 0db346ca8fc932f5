use Rattle.std.proofs.Common.{refl, [], ◌∷◌}
use Rattle.theory.specs.declared.rule.RuleName.TheVariants.{Gluing}
use Rattle.theory.specs.declared.rule.GlueRule.TheVariants as rule
use Rattle.presuppositions.specs.declared.source.Label.TheVariants as label
use Rattle.presuppositions.proofs.EntryLaws.{answers}
use Rattle.glue_entries.specs.Statements.{equiv_tycong_statement}
use Rattle.glue_entries.proofs.gluing.context_of_glue.Goals as goal

pub returns-in-GlueTy : goal.returns-in-GlueTy
returns-in-GlueTy c = answers (λ r. Gluing r) (equiv_tycong_statement ∷ []) label.Context c.args.rule rule.GlueTy c.in-GlueTy.is _ _ _ c.at_hand.result c.at_hand.ensures refl

pub returns-in-GlueU : goal.returns-in-GlueU
returns-in-GlueU c = answers (λ r. Gluing r) (equiv_tycong_statement ∷ []) label.Context c.args.rule rule.GlueU c.in-GlueU.is _ _ _ c.at_hand-in-GlueU.result c.at_hand-in-GlueU.ensures refl

pub returns-in-GlueTyFace : goal.returns-in-GlueTyFace
returns-in-GlueTyFace c = answers (λ r. Gluing r) (equiv_tycong_statement ∷ []) label.Context c.args.rule rule.GlueTyFace c.in-GlueTyFace.is _ _ _ c.at_hand-in-GlueTyFace.result c.at_hand-in-GlueTyFace.ensures refl

pub returns-in-GlueUFace : goal.returns-in-GlueUFace
returns-in-GlueUFace c = answers (λ r. Gluing r) (equiv_tycong_statement ∷ []) label.Context c.args.rule rule.GlueUFace c.in-GlueUFace.is _ _ _ c.at_hand-in-GlueUFace.result c.at_hand-in-GlueUFace.ensures refl

pub returns-in-GlueTyCong : goal.returns-in-GlueTyCong
returns-in-GlueTyCong c = answers (λ r. Gluing r) (equiv_tycong_statement ∷ []) label.Context c.args.rule rule.GlueTyCong c.in-GlueTyCong.is _ _ _ c.at_hand-in-GlueTyCong.result c.at_hand-in-GlueTyCong.ensures refl

pub returns-in-GlueUCong : goal.returns-in-GlueUCong
returns-in-GlueUCong c = answers (λ r. Gluing r) (equiv_tycong_statement ∷ []) label.Context c.args.rule rule.GlueUCong c.in-GlueUCong.is _ _ _ c.at_hand-in-GlueUCong.result c.at_hand-in-GlueUCong.ensures refl

pub returns-in-Glue : goal.returns-in-Glue
returns-in-Glue c = answers (λ r. Gluing r) (equiv_tycong_statement ∷ []) label.Context c.args.rule rule.Glue c.in-Glue.is _ _ _ c.at_hand-in-Glue.result c.at_hand-in-Glue.ensures refl

pub returns-in-GlueFace : goal.returns-in-GlueFace
returns-in-GlueFace c = answers (λ r. Gluing r) (equiv_tycong_statement ∷ []) label.Context c.args.rule rule.GlueFace c.in-GlueFace.is _ _ _ c.at_hand-in-GlueFace.result c.at_hand-in-GlueFace.ensures refl

pub returns-in-Unglue : goal.returns-in-Unglue
returns-in-Unglue c = answers (λ r. Gluing r) (equiv_tycong_statement ∷ []) label.Context c.args.rule rule.Unglue c.in-Unglue.is _ _ _ c.at_hand-in-Unglue.result c.at_hand-in-Unglue.ensures refl

pub returns-in-UnglueFace : goal.returns-in-UnglueFace
returns-in-UnglueFace c = answers (λ r. Gluing r) (equiv_tycong_statement ∷ []) label.Context c.args.rule rule.UnglueFace c.in-UnglueFace.is _ _ _ c.at_hand-in-UnglueFace.result c.at_hand-in-UnglueFace.ensures refl

pub returns-in-UnglueCong : goal.returns-in-UnglueCong
returns-in-UnglueCong c = answers (λ r. Gluing r) (equiv_tycong_statement ∷ []) label.Context c.args.rule rule.UnglueCong c.in-UnglueCong.is _ _ _ c.at_hand-in-UnglueCong.result c.at_hand-in-UnglueCong.ensures refl

pub returns-in-GlueBeta : goal.returns-in-GlueBeta
returns-in-GlueBeta c = answers (λ r. Gluing r) (equiv_tycong_statement ∷ []) label.Context c.args.rule rule.GlueBeta c.in-GlueBeta.is _ _ _ c.at_hand-in-GlueBeta.result c.at_hand-in-GlueBeta.ensures refl

pub returns-in-GlueEta : goal.returns-in-GlueEta
returns-in-GlueEta c = answers (λ r. Gluing r) (equiv_tycong_statement ∷ []) label.Context c.args.rule rule.GlueEta c.in-GlueEta.is _ _ _ c.at_hand-in-GlueEta.result c.at_hand-in-GlueEta.ensures refl
