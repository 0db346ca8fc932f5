use Rattle.form_rows.proofs.RowLaws.{trees_kept}
use Rattle.judgement_rows.proofs.SystemLaws.{as_many_values, face_trees, system_is, value_trees}
use Rattle.judgement_rows.proofs.systems.SideRows.system.Goals as goal

pub system-requires-clause-as_many : goal.system-requires-clause-as_many
system-requires-clause-as_many g c =
    rw (c.deref.ensures.value, c.deref-2.ensures.value) (as_many_values c.requires)

pub system-requires-clause-faces : goal.system-requires-clause-faces
system-requires-clause-faces g c =
    rw c.deref.ensures.value (face_trees c.requires)

pub system-requires-clause-values : goal.system-requires-clause-values
system-requires-clause-values g c =
    rw c.deref-2.ensures.value (value_trees c.requires)

pub cover-requires : goal.cover-requires
cover-requires g c =
    rw c.deref-3.ensures.value (trees_kept _ _ _ c.system.ensures.kept (face_trees c.requires))

pub returns-clause-system : goal.returns-clause-system
returns-clause-system g c =
    system_is (rw (c.deref.ensures.value, c.deref-2.ensures.value) at c.in_ok-body.ensures.body) c.system.ensures.kept c.cover.ensures.kept (rw c.deref-3.ensures.value at c.in_ok-cover.ensures.covers)
