use Rattle.std.proofs.Common.{subst, sym, [], ◌∷◌}
use Rattle.presuppositions.specs.Entries.{Answers}
use Rattle.glue_entries.specs.Statements.{equiv_tycong_statement}
use Rattle.entries.proofs.entry.Goals as goal

pub returns-in-Contexts : goal.returns-in-Contexts
returns-in-Contexts c = subst (λ r. Answers (equiv_tycong_statement ∷ []) r c.args.label c.context_entry.result) (sym c.in-Contexts.is) (c.context_entry.ensures (equiv_tycong_statement ∷ []))

pub returns-in-Instances : goal.returns-in-Instances
returns-in-Instances c = subst (λ r. Answers (equiv_tycong_statement ∷ []) r c.args.label c.instance_entry.result) (sym c.in-Instances.is) (c.instance_entry.ensures (equiv_tycong_statement ∷ []))

pub returns-in-Equality : goal.returns-in-Equality
returns-in-Equality c = subst (λ r. Answers (equiv_tycong_statement ∷ []) r c.args.label c.equality_entry.result) (sym c.in-Equality.is) (c.equality_entry.ensures (equiv_tycong_statement ∷ []))

pub returns-in-Universe : goal.returns-in-Universe
returns-in-Universe c = subst (λ r. Answers (equiv_tycong_statement ∷ []) r c.args.label c.universe_entry.result) (sym c.in-Universe.is) (c.universe_entry.ensures (equiv_tycong_statement ∷ []))

pub returns-in-Pi : goal.returns-in-Pi
returns-in-Pi c = subst (λ r. Answers (equiv_tycong_statement ∷ []) r c.args.label c.pi_entry.result) (sym c.in-Pi.is) (c.pi_entry.ensures (equiv_tycong_statement ∷ []))

pub returns-in-Sigma : goal.returns-in-Sigma
returns-in-Sigma c = subst (λ r. Answers (equiv_tycong_statement ∷ []) r c.args.label c.sigma_entry.result) (sym c.in-Sigma.is) (c.sigma_entry.ensures (equiv_tycong_statement ∷ []))

pub returns-in-Paths : goal.returns-in-Paths
returns-in-Paths c = subst (λ r. Answers (equiv_tycong_statement ∷ []) r c.args.label c.path_entry.result) (sym c.in-Paths.is) (c.path_entry.ensures (equiv_tycong_statement ∷ []))

pub returns-in-Naturals : goal.returns-in-Naturals
returns-in-Naturals c = subst (λ r. Answers (equiv_tycong_statement ∷ []) r c.args.label c.nat_entry.result) (sym c.in-Naturals.is) (c.nat_entry.ensures (equiv_tycong_statement ∷ []))

pub returns-in-Systems : goal.returns-in-Systems
returns-in-Systems c = subst (λ r. Answers (equiv_tycong_statement ∷ []) r c.args.label c.system_entry.result) (sym c.in-Systems.is) (c.system_entry.ensures (equiv_tycong_statement ∷ []))

pub returns-in-Composition : goal.returns-in-Composition
returns-in-Composition c = subst (λ r. Answers (equiv_tycong_statement ∷ []) r c.args.label c.comp_entry.result) (sym c.in-Composition.is) (c.comp_entry.ensures (equiv_tycong_statement ∷ []))

pub returns-in-Gluing : goal.returns-in-Gluing
returns-in-Gluing c = subst (λ r. Answers (equiv_tycong_statement ∷ []) r c.args.label c.glue_entry.result) (sym c.in-Gluing.is) c.glue_entry.ensures
