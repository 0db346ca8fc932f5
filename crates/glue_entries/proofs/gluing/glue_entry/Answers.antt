use Rattle.std.proofs.Common.{subst, sym, [], ◌∷◌}
use Rattle.theory.specs.declared.rule.RuleName.TheVariants.{Gluing}
use Rattle.presuppositions.specs.Entries.{Answers, has_none}
use Rattle.presuppositions.proofs.EntryLaws.{one-of}
use Rattle.glue_entries.specs.Statements.{equiv_tycong_statement}
use Rattle.glue_entries.proofs.GlueLabels.{others, none-others}
use Rattle.glue_entries.proofs.gluing.glue_entry.Goals as goal

pub returns-in-Context : goal.returns-in-Context
returns-in-Context c = subst (λ l. Answers (equiv_tycong_statement ∷ []) (Gluing c.args.rule) l c.context_of_glue.result) (sym c.in-Context.is) c.context_of_glue.ensures

pub returns-in-Type : goal.returns-in-Type
returns-in-Type c = subst (λ l. Answers (equiv_tycong_statement ∷ []) (Gluing c.args.rule) l c.type_of_glue.result) (sym c.in-Type.is) c.type_of_glue.ensures

pub returns-in-Left : goal.returns-in-Left
returns-in-Left c = subst (λ l. Answers (equiv_tycong_statement ∷ []) (Gluing c.args.rule) l c.left_of_glue.result) (sym c.in-Left.is) c.left_of_glue.ensures

pub returns-in-Right : goal.returns-in-Right
returns-in-Right c = subst (λ l. Answers (equiv_tycong_statement ∷ []) (Gluing c.args.rule) l c.right_of_glue.result) (sym c.in-Right.is) c.right_of_glue.ensures

pub returns-in-From : goal.returns-in-From
returns-in-From c = one-of (has_none (Gluing c.args.rule)) c.args.label others c.in-From.is (none-others c.args.rule)
