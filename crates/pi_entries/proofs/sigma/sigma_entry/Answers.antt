use Rattle.std.proofs.Common.{subst, sym}
use Rattle.theory.specs.declared.rule.RuleName.TheVariants.{Sigma}
use Rattle.presuppositions.specs.Entries.{Answers, has_none}
use Rattle.presuppositions.proofs.EntryLaws.{one-of}
use Rattle.pi_entries.proofs.SigmaLabels.{others, none-others}
use Rattle.pi_entries.proofs.sigma.sigma_entry.Goals as goal

pub returns-in-Context : goal.returns-in-Context
returns-in-Context c = λ earlier. subst (λ l. Answers earlier (Sigma c.args.rule) l c.context_of_sigma.result) (sym c.in-Context.is) (c.context_of_sigma.ensures earlier)

pub returns-in-Type : goal.returns-in-Type
returns-in-Type c = λ earlier. subst (λ l. Answers earlier (Sigma c.args.rule) l c.type_of_sigma.result) (sym c.in-Type.is) (c.type_of_sigma.ensures earlier)

pub returns-in-Left : goal.returns-in-Left
returns-in-Left c = λ earlier. subst (λ l. Answers earlier (Sigma c.args.rule) l c.left_of_sigma.result) (sym c.in-Left.is) (c.left_of_sigma.ensures earlier)

pub returns-in-Right : goal.returns-in-Right
returns-in-Right c = λ earlier. subst (λ l. Answers earlier (Sigma c.args.rule) l c.right_of_sigma.result) (sym c.in-Right.is) (c.right_of_sigma.ensures earlier)

pub returns-in-Domain : goal.returns-in-Domain
returns-in-Domain c = λ earlier. subst (λ l. Answers earlier (Sigma c.args.rule) l c.domain_of_sigma.result) (sym c.in-Domain.is) (c.domain_of_sigma.ensures earlier)

pub returns-in-Codomain : goal.returns-in-Codomain
returns-in-Codomain c = λ earlier. subst (λ l. Answers earlier (Sigma c.args.rule) l c.codomain_of_sigma.result) (sym c.in-Codomain.is) (c.codomain_of_sigma.ensures earlier)

pub returns-in-From : goal.returns-in-From
returns-in-From c = λ earlier. one-of (has_none (Sigma c.args.rule)) c.args.label others c.in-From.is (none-others c.args.rule)
