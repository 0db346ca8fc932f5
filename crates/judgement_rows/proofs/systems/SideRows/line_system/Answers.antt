use Rattle.form_rows.proofs.RowLaws.{kept_then, trees_kept}
use Rattle.judgement_rows.proofs.SystemLaws.{face_trees, lifted_as_many, lifted_trees, line_system_is, value_trees}
use Rattle.judgement_rows.proofs.systems.SideRows.line_system.Goals as goal

pub all_lifted-requires : goal.all_lifted-requires
all_lifted-requires g c =
    rw c.deref.ensures.value (face_trees c.requires)

pub system-requires-clause-as_many : goal.system-requires-clause-as_many
system-requires-clause-as_many g c =
    rw (c.deref-2.ensures.value, c.deref-3.ensures.value) (lifted_as_many c.requires (rw c.deref.ensures.value at c.in_ok-inside.ensures.lifted))

pub system-requires-clause-faces : goal.system-requires-clause-faces
system-requires-clause-faces g c =
    rw c.deref-2.ensures.value (lifted_trees c.requires (rw c.deref.ensures.value at c.in_ok-inside.ensures.lifted))

pub system-requires-clause-values : goal.system-requires-clause-values
system-requires-clause-values g c =
    rw c.deref-3.ensures.value (trees_kept _ _ _ c.all_lifted.ensures.kept (value_trees c.requires))

pub cover-requires : goal.cover-requires
cover-requires g c =
    rw c.deref-4.ensures.value (trees_kept _ _ _ (kept_then c.all_lifted.ensures.kept c.system.ensures.kept) (face_trees c.requires))

pub returns-clause-system : goal.returns-clause-system
returns-clause-system g c =
    line_system_is c.all_lifted.ensures.kept (rw c.deref.ensures.value at c.in_ok-inside.ensures.lifted) c.system.ensures.kept (rw (c.deref-2.ensures.value, c.deref-3.ensures.value) at c.in_ok-body.ensures.body)
    c.cover.ensures.kept (rw c.deref-4.ensures.value at c.in_ok-cover.ensures.covers)
