-- The earlier recipes that others name, in order.
use Rattle.std.specs.Prelude.{ℕ, List, [], ◌∷◌}
use Rattle.recipes.specs.Statements.{Statement}
use Rattle.glue_entries.specs.Statements.{equiv_tycong_statement}
use Rattle.kan_universe.specs.Lines.{line_statement, back_statement}
use Rattle.kan_universe.specs.Lines.{square_statement, cube_statement}
use Rattle.kan_universe.specs.Equivalences.{eqv_uv_statement, eqv_m_statement, eqv_n_statement}
use Rattle.kan_universe.specs.Equivalences.{eqv_w_statement, assemble_statement, eqv_statement}

abbrev pub lines : List Statement
lines = line_statement ∷ back_statement ∷ square_statement ∷ cube_statement ∷ []

abbrev pub equivalence_parts : List Statement
equivalence_parts =
    eqv_uv_statement
    ∷ eqv_m_statement
    ∷ eqv_n_statement
    ∷ eqv_w_statement
    ∷ assemble_statement
    ∷ []

abbrev pub universe_parts : List Statement
universe_parts = eqv_statement ∷ equiv_tycong_statement ∷ []

-- the most rows and nodes that each adds to a book

abbrev pub most_of_lines : List ℕ
most_of_lines = 3393 ∷ 3698 ∷ 4599 ∷ 4191 ∷ []

abbrev pub most_of_equivalence_parts : List ℕ
most_of_equivalence_parts = 7798 ∷ 5290 ∷ 7202 ∷ 7877 ∷ 2569 ∷ []

abbrev pub most_of_universe_parts : List ℕ
most_of_universe_parts = 32956 ∷ 1495 ∷ []
