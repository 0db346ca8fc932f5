use Rattle.std.proofs.Common.{subst, sym}
use Rattle.theory.specs.declared.rule.RuleName.TheVariants.{Paths}
use Rattle.presuppositions.specs.Entries.{Answers, has_none}
use Rattle.presuppositions.proofs.EntryLaws.{one-of}
use Rattle.path_entries.proofs.PathLabels.{others, none-others}
use Rattle.path_entries.proofs.paths.path_entry.Goals as goal

pub returns-in-Context : goal.returns-in-Context
returns-in-Context c = λ earlier. subst (λ l. Answers earlier (Paths c.args.rule) l c.context_of_path.result) (sym c.in-Context.is) (c.context_of_path.ensures earlier)

pub returns-in-Type : goal.returns-in-Type
returns-in-Type c = λ earlier. subst (λ l. Answers earlier (Paths c.args.rule) l c.type_of_path.result) (sym c.in-Type.is) (c.type_of_path.ensures earlier)

pub returns-in-Left : goal.returns-in-Left
returns-in-Left c = λ earlier. subst (λ l. Answers earlier (Paths c.args.rule) l c.left_of_path.result) (sym c.in-Left.is) (c.left_of_path.ensures earlier)

pub returns-in-Right : goal.returns-in-Right
returns-in-Right c = λ earlier. subst (λ l. Answers earlier (Paths c.args.rule) l c.right_of_path.result) (sym c.in-Right.is) (c.right_of_path.ensures earlier)

pub returns-in-Line : goal.returns-in-Line
returns-in-Line c = λ earlier. subst (λ l. Answers earlier (Paths c.args.rule) l c.line_of_path.result) (sym c.in-Line.is) (c.line_of_path.ensures earlier)

pub returns-in-LeftEnd : goal.returns-in-LeftEnd
returns-in-LeftEnd c = λ earlier. subst (λ l. Answers earlier (Paths c.args.rule) l c.left_end_of_path.result) (sym c.in-LeftEnd.is) (c.left_end_of_path.ensures earlier)

pub returns-in-RightEnd : goal.returns-in-RightEnd
returns-in-RightEnd c = λ earlier. subst (λ l. Answers earlier (Paths c.args.rule) l c.right_end_of_path.result) (sym c.in-RightEnd.is) (c.right_end_of_path.ensures earlier)

pub returns-in-From : goal.returns-in-From
returns-in-From c = λ earlier. one-of (has_none (Paths c.args.rule)) c.args.label others c.in-From.is (none-others c.args.rule)
