use Rattle.judgement_tests.proofs.shown.Shown.+context.Given as goal

abbrev pub decreases-context : goal.decreases-context
decreases-context l = l.depth
