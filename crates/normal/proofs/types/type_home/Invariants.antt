use Rattle.normal.proofs.types.type_home.Given as goal

abbrev pub decreases-loop-book : goal.decreases-loop-book
decreases-loop-book l = l.susp.typing.0
