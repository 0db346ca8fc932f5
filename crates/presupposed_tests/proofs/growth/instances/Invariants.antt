use Rattle.trees.specs.Trees.{id}
use Rattle.trees.specs.Judgements.{Nil}
use Rattle.trees.specs.Language.{Sb}
use Rattle.typed_nodes.specs.Typed.{Says}
use Rattle.presupposed_tests.specs.Grown.{IsTerm}
use Rattle.presupposed_tests.proofs.growth.instances.Given as goal

abbrev pub invariant-loop : goal.invariant-loop
invariant-loop l = Says l.book l.sub (Sb Nil id Nil) × IsTerm l.book l.term
