use Rattle.fixed_names.specs.Scopes.{rank}
use Rattle.fixed_names.specs.Shown.{fixed_by}
use Rattle.fixed_names.proofs.ScopeLaws.{SameAs}
use Rattle.fixed_names.proofs.scopes.Scopes.is_free.Given as goal

-- whether the index is free is told by another index further out
abbrev pub invariant-loop-scope : goal.invariant-loop-scope
invariant-loop-scope l = SameAs (fixed_by l.self) l.fn.scope l.fn.index l.scope l.index

abbrev pub decreases-loop-scope : goal.decreases-loop-scope
decreases-loop-scope l = rank l.scope
