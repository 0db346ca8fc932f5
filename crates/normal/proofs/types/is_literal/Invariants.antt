use Rattle.normal.proofs.types.is_literal.Given as goal

abbrev pub decreases-loop-ty : goal.decreases-loop-ty
decreases-loop-ty l = l.ty.0
