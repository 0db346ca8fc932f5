-- The earlier recipes that the unfolding names, in order.
use Rattle.std.specs.Prelude.{ℕ, List, [], ◌∷◌}
use Rattle.recipes.specs.Statements.{Statement}
use Rattle.kan_glue.specs.Steps.{glue_base_statement, glue_all_statement}
use Rattle.kan_glue.specs.Steps.{extend_statement, reglue_statement}

abbrev pub glue_parts : List Statement
glue_parts = glue_base_statement ∷ glue_all_statement ∷ extend_statement ∷ reglue_statement ∷ []

-- the most rows and nodes that each adds to a book
abbrev pub most_of_glue_parts : List ℕ
most_of_glue_parts = 687 ∷ 7433 ∷ 2091 ∷ 1572 ∷ []
