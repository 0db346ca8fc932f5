use Rattle.std.proofs.Common.{length, refl}
use Rattle.recipe_runner.proofs.FlatLaws.{counts-nothing}
use Rattle.recipe_runner.proofs.earlier.NoRecipesEarlier.count_parts.Goals as goal

pub returns-clause-count : goal.returns-clause-count
returns-clause-count c = counts-nothing c.args._recipe (λ s. length s.kinds) refl
