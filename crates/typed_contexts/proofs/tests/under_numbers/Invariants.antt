use Rattle.trees.specs.Judgements.{Context, trees}
use Rattle.trees.specs.Language.{Ty}
use Rattle.rules.specs.Table.{nat}
use Rattle.typed_nodes.specs.Typed.{Says}
use Rattle.typed_contexts.specs.Contexts.{at_depth}
use Rattle.typed_contexts.specs.Places.{IsPlace}
use Rattle.typed_contexts.proofs.tests.under_numbers.Given as goal

abbrev pub invariant-loop-variable : goal.invariant-loop-variable
invariant-loop-variable l =
    (H : Context) × IsPlace l.book l.places H × Says l.book l.numbers (Ty (at_depth 0 H) (nat trees))
