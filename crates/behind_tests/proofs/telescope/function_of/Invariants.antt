use Rattle.std.proofs.Common.{reverse}
use Rattle.trees.specs.Judgements.{Context}
use Rattle.trees.specs.Language.{Ctx}
use Rattle.typed_nodes.specs.Typed.{Says}
use Rattle.behind_tests.specs.Telescopes.{AreAll, IsTerm}
use Rattle.behind_tests.proofs.telescope.function_of.Given as goal

abbrev pub invariant-loop : goal.invariant-loop
invariant-loop l = (G : Context) × Says l.book l.ctx (Ctx G) × IsTerm l.book l.body G × AreAll l.book (reverse l.arguments.items) G
