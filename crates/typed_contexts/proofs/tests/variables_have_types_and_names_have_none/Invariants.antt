use Rattle.trees.specs.Judgements.{Context}
use Rattle.typed_contexts.specs.Places.{IsPlace}
use Rattle.typed_contexts.proofs.tests.variables_have_types_and_names_have_none.Given as goal

abbrev pub invariant-loop-index : goal.invariant-loop-index
invariant-loop-index g l = (H : Context) × IsPlace l.book l.places H
