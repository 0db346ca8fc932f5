use Rattle.std.proofs.Common.{subst, sym}
use Rattle.theory.specs.declared.rule.RuleName.TheVariants.{Instances}
use Rattle.presuppositions.specs.Entries.{Answers, has_none}
use Rattle.presuppositions.proofs.EntryLaws.{one-of}
use Rattle.equality_entries.proofs.InstanceLabels.{others, none-others}
use Rattle.equality_entries.proofs.instances.instance_entry.Goals as goal

pub returns-in-Context : goal.returns-in-Context
returns-in-Context c = λ earlier. subst (λ l. Answers earlier (Instances c.args.rule) l c.context_of_instance.result) (sym c.in-Context.is) (c.context_of_instance.ensures earlier)

pub returns-in-Type : goal.returns-in-Type
returns-in-Type c = λ earlier. subst (λ l. Answers earlier (Instances c.args.rule) l c.type_of_instance.result) (sym c.in-Type.is) (c.type_of_instance.ensures earlier)

pub returns-in-Left : goal.returns-in-Left
returns-in-Left c = λ earlier. subst (λ l. Answers earlier (Instances c.args.rule) l c.left_of_instance.result) (sym c.in-Left.is) (c.left_of_instance.ensures earlier)

pub returns-in-Right : goal.returns-in-Right
returns-in-Right c = λ earlier. subst (λ l. Answers earlier (Instances c.args.rule) l c.right_of_instance.result) (sym c.in-Right.is) (c.right_of_instance.ensures earlier)

pub returns-in-From : goal.returns-in-From
returns-in-From c = λ earlier. one-of (has_none (Instances c.args.rule)) c.args.label others c.in-From.is (none-others c.args.rule)
