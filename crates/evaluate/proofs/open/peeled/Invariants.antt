use Rattle.evaluate.proofs.open.peeled.Given as goal

abbrev pub decreases-loop-book : goal.decreases-loop-book
decreases-loop-book l = l.goal.susp.typing.0
