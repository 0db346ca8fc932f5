use Rattle.std.proofs.Common.{subst, sym}
use Rattle.theory.specs.declared.rule.RuleName.TheVariants.{Contexts}
use Rattle.presuppositions.specs.Entries.{Answers, has_none}
use Rattle.presuppositions.proofs.EntryLaws.{one-of}
use Rattle.equality_entries.proofs.ContextLabels.{others, none-others}
use Rattle.equality_entries.proofs.contexts.context_entry.Goals as goal

pub returns-in-Context : goal.returns-in-Context
returns-in-Context c = λ earlier. subst (λ l. Answers earlier (Contexts c.args.rule) l c.context_of_context.result) (sym c.in-Context.is) (c.context_of_context.ensures earlier)

pub returns-in-Type : goal.returns-in-Type
returns-in-Type c = λ earlier. subst (λ l. Answers earlier (Contexts c.args.rule) l c.type_of_context.result) (sym c.in-Type.is) (c.type_of_context.ensures earlier)

pub returns-in-From : goal.returns-in-From
returns-in-From c = λ earlier. subst (λ l. Answers earlier (Contexts c.args.rule) l c.from_of_context.result) (sym c.in-From.is) (c.from_of_context.ensures earlier)

pub returns-in-To : goal.returns-in-To
returns-in-To c = λ earlier. subst (λ l. Answers earlier (Contexts c.args.rule) l c.to_of_context.result) (sym c.in-To.is) (c.to_of_context.ensures earlier)

pub returns-in-Left : goal.returns-in-Left
returns-in-Left c = λ earlier. one-of (has_none (Contexts c.args.rule)) c.args.label others c.in-Left.is (none-others c.args.rule)
