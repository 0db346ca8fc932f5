use Rattle.typed_contexts.proofs.place.Places.+weakening_from.Given as goal

abbrev pub decreases-weakening_from : goal.decreases-weakening_from
decreases-weakening_from l = l.from
