use Rattle.judgement_tests.proofs.shown.Shown.+trees.Given as goal

abbrev pub decreases-subst : goal.decreases-subst
decreases-subst l = l.depth

abbrev pub decreases-term : goal.decreases-term
decreases-term l = l.depth
