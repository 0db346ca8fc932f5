use Rattle.form_rows.proofs.RowLaws.{kept_then, trees_kept}
use Rattle.judgement_rows.proofs.SystemLaws.{as_many_equivalences, as_many_types, equivalence_trees, pair_face_trees, pair_system_is, type_trees}
use Rattle.judgement_rows.proofs.systems.PairRows.system.Goals as goal

pub system-requires-clause-as_many : goal.system-requires-clause-as_many
system-requires-clause-as_many g c =
    rw (c.deref.ensures.value, c.deref-2.ensures.value) (as_many_types c.requires)

pub system-requires-clause-faces : goal.system-requires-clause-faces
system-requires-clause-faces g c =
    rw c.deref.ensures.value (pair_face_trees c.requires)

pub system-requires-clause-values : goal.system-requires-clause-values
system-requires-clause-values g c =
    rw c.deref-2.ensures.value (type_trees c.requires)

pub system-requires-2-clause-as_many : goal.system-requires-2-clause-as_many
system-requires-2-clause-as_many g c =
    rw (c.deref-3.ensures.value, c.deref-4.ensures.value) (as_many_equivalences c.requires)

pub system-requires-2-clause-faces : goal.system-requires-2-clause-faces
system-requires-2-clause-faces g c =
    rw c.deref-3.ensures.value (trees_kept _ _ _ c.system.ensures.kept (pair_face_trees c.requires))

pub system-requires-2-clause-values : goal.system-requires-2-clause-values
system-requires-2-clause-values g c =
    rw c.deref-4.ensures.value (trees_kept _ _ _ c.system.ensures.kept (equivalence_trees c.requires))

pub cover-requires : goal.cover-requires
cover-requires g c =
    rw c.deref-5.ensures.value (trees_kept _ _ _ (kept_then c.system.ensures.kept c.system-2.ensures.kept) (pair_face_trees c.requires))

pub returns-clause-system : goal.returns-clause-system
returns-clause-system g c =
    pair_system_is c.system.ensures.kept (rw (c.deref.ensures.value, c.deref-2.ensures.value) at c.in_ok-types.ensures.body) c.system-2.ensures.kept (rw (c.deref-3.ensures.value, c.deref-4.ensures.value) at c.in_ok-equivalences.ensures.body)
    c.cover.ensures.kept (rw c.deref-5.ensures.value at c.in_ok-cover.ensures.covers)
