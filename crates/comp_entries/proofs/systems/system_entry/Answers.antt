use Rattle.std.proofs.Common.{subst, sym}
use Rattle.theory.specs.declared.rule.RuleName.TheVariants.{Systems}
use Rattle.presuppositions.specs.Entries.{Answers, has_none}
use Rattle.presuppositions.proofs.EntryLaws.{one-of}
use Rattle.comp_entries.proofs.SystemLabels.{others, none-others}
use Rattle.comp_entries.proofs.systems.system_entry.Goals as goal

pub returns-in-Context : goal.returns-in-Context
returns-in-Context c = λ earlier. subst (λ l. Answers earlier (Systems c.args.rule) l c.context_of_system.result) (sym c.in-Context.is) (c.context_of_system.ensures earlier)

pub returns-in-Type : goal.returns-in-Type
returns-in-Type c = λ earlier. subst (λ l. Answers earlier (Systems c.args.rule) l c.type_of_system.result) (sym c.in-Type.is) (c.type_of_system.ensures earlier)

pub returns-in-Left : goal.returns-in-Left
returns-in-Left c = λ earlier. subst (λ l. Answers earlier (Systems c.args.rule) l c.left_of_system.result) (sym c.in-Left.is) (c.left_of_system.ensures earlier)

pub returns-in-Right : goal.returns-in-Right
returns-in-Right c = λ earlier. subst (λ l. Answers earlier (Systems c.args.rule) l c.right_of_system.result) (sym c.in-Right.is) (c.right_of_system.ensures earlier)

pub returns-in-From : goal.returns-in-From
returns-in-From c = λ earlier. one-of (has_none (Systems c.args.rule)) c.args.label others c.in-From.is (none-others c.args.rule)
