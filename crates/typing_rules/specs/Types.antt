-- How types are formed, in every language.
use Rattle.std.specs.Prelude.{List, [], ◌∷◌}
use Rattle.trees.specs.declared.kind.PartKind.{PartKind}
use Rattle.trees.specs.declared.kind.PartKind.TheVariants.{Context, Term}
use Rattle.trees.specs.Language.{Language, Ctx, Tm, Ty}
use Rattle.patterns.specs.Patterns.{patterns}
use Rattle.rules.specs.Table.{app, at, i0, i1, nat, papp, pathp, pi, sig, suc, universe, weakened}
use Rattle.recipes.specs.Statements.{Stated, Statement, stated}

-- The universe is a type.
abbrev universe_type_kinds : List PartKind
universe_type_kinds = Context ∷ []

abbrev pub universe_type : (L : Language) → Stated L universe_type_kinds
universe_type L = λ H. record {
  wants = Ctx H ∷ [];
  sides = [];
  gives = Ty H (universe L) ∷ [];
}

abbrev pub universe_type_statement : Statement
universe_type_statement = stated universe_type_kinds (universe_type patterns)

-- The numbers are a type.
abbrev numbers_type_kinds : List PartKind
numbers_type_kinds = Context ∷ []

abbrev pub numbers_type : (L : Language) → Stated L numbers_type_kinds
numbers_type L = λ H. record {
  wants = Ctx H ∷ [];
  sides = [];
  gives = Tm H (nat L) (universe L) ∷ Ty H (nat L) ∷ [];
}

abbrev pub numbers_type_statement : Statement
numbers_type_statement = stated numbers_type_kinds (numbers_type patterns)

-- What is in the universe is a type.
abbrev small_type_kinds : List PartKind
small_type_kinds = Context ∷ Term ∷ []

abbrev pub small_type : (L : Language) → Stated L small_type_kinds
small_type L = λ H A. record {
  wants = Tm H A (universe L) ∷ [];
  sides = [];
  gives = Ty H A ∷ [];
}

abbrev pub small_type_statement : Statement
small_type_statement = stated small_type_kinds (small_type patterns)

-- A type of functions.
abbrev pi_type_kinds : List PartKind
pi_type_kinds = Context ∷ Term ∷ Term ∷ []

abbrev pub pi_type : (L : Language) → Stated L pi_type_kinds
pi_type L = λ H A B. record {
  wants = Ty H A ∷ Ty (L.with_var H A) B ∷ [];
  sides = [];
  gives = Ty H (pi L A B) ∷ [];
}

abbrev pub pi_type_statement : Statement
pi_type_statement = stated pi_type_kinds (pi_type patterns)

-- A type of functions in the universe.
abbrev pi_small_kinds : List PartKind
pi_small_kinds = Context ∷ Term ∷ Term ∷ []

abbrev pub pi_small : (L : Language) → Stated L pi_small_kinds
pi_small L = λ H A B. record {
  wants = Tm H A (universe L) ∷ Tm (L.with_var H A) B (universe L) ∷ [];
  sides = [];
  gives = Tm H (pi L A B) (universe L) ∷ [];
}

abbrev pub pi_small_statement : Statement
pi_small_statement = stated pi_small_kinds (pi_small patterns)

-- A type of pairs.
abbrev sig_type_kinds : List PartKind
sig_type_kinds = Context ∷ Term ∷ Term ∷ []

abbrev pub sig_type : (L : Language) → Stated L sig_type_kinds
sig_type L = λ H A B. record {
  wants = Ty H A ∷ Ty (L.with_var H A) B ∷ [];
  sides = [];
  gives = Ty H (sig L A B) ∷ [];
}

abbrev pub sig_type_statement : Statement
sig_type_statement = stated sig_type_kinds (sig_type patterns)

-- A type of pairs in the universe.
abbrev sig_small_kinds : List PartKind
sig_small_kinds = Context ∷ Term ∷ Term ∷ []

abbrev pub sig_small : (L : Language) → Stated L sig_small_kinds
sig_small L = λ H A B. record {
  wants = Tm H A (universe L) ∷ Tm (L.with_var H A) B (universe L) ∷ [];
  sides = [];
  gives = Tm H (sig L A B) (universe L) ∷ [];
}

abbrev pub sig_small_statement : Statement
sig_small_statement = stated sig_small_kinds (sig_small patterns)

-- A type of paths.
abbrev path_type_kinds : List PartKind
path_type_kinds = Context ∷ Term ∷ Term ∷ Term ∷ []

abbrev pub path_type : (L : Language) → Stated L path_type_kinds
path_type L = λ H A u v. record {
  wants = Ty (L.with_name H) A ∷ Tm H u (at L A (i0 L)) ∷ Tm H v (at L A (i1 L)) ∷ [];
  sides = [];
  gives = Ty H (pathp L A u v) ∷ [];
}

abbrev pub path_type_statement : Statement
path_type_statement = stated path_type_kinds (path_type patterns)

-- A type of paths in the universe.
abbrev path_small_kinds : List PartKind
path_small_kinds = Context ∷ Term ∷ Term ∷ Term ∷ []

abbrev pub path_small : (L : Language) → Stated L path_small_kinds
path_small L = λ H A u v. record {
  wants = Tm (L.with_name H) A (universe L) ∷ Tm H u (at L A (i0 L)) ∷ Tm H v (at L A (i1 L)) ∷ [];
  sides = [];
  gives = Tm H (pathp L A u v) (universe L) ∷ [];
}

abbrev pub path_small_statement : Statement
path_small_statement = stated path_small_kinds (path_small patterns)

-- The type of the step of a recursion.
abbrev motive_step_kinds : List PartKind
motive_step_kinds = Context ∷ Term ∷ []

abbrev pub motive_step : (L : Language) → Stated L motive_step_kinds
motive_step L = λ H P. record {
  wants = Ctx H ∷ Ty (L.with_var H (nat L)) P ∷ [];
  sides = [];
  gives = Ty H (pi L (nat L) (pi L P (L.apply P (L.push (L.shift_by 2) (suc L (L.var 1)))))) ∷ [];
}

abbrev pub motive_step_statement : Statement
motive_step_statement = stated motive_step_kinds (motive_step patterns)

-- A path of types, at a new name.
abbrev path_in_universe_kinds : List PartKind
path_in_universe_kinds = Term ∷ Term ∷ Context ∷ Term ∷ []

abbrev pub path_in_universe : (L : Language) → Stated L path_in_universe_kinds
path_in_universe L = λ u v H c. record {
  wants = Ctx H ∷ Tm H c (pathp L (universe L) u v) ∷ [];
  sides = [];
  gives = Tm (L.with_name H) (papp L (weakened L c) (L.var 0)) (universe L) ∷ [];
}

abbrev pub path_in_universe_statement : Statement
path_in_universe_statement = stated path_in_universe_kinds (path_in_universe patterns)

-- A family of types of the numbers, at a new number.
abbrev family_of_numbers_kinds : List PartKind
family_of_numbers_kinds = Context ∷ Term ∷ []

abbrev pub family_of_numbers : (L : Language) → Stated L family_of_numbers_kinds
family_of_numbers L = λ H c. record {
  wants = Ctx H ∷ Tm H c (pi L (nat L) (universe L)) ∷ [];
  sides = [];
  gives = Tm (L.with_var H (nat L)) (app L (weakened L c) (L.var 0)) (universe L) ∷ [];
}

abbrev pub family_of_numbers_statement : Statement
family_of_numbers_statement = stated family_of_numbers_kinds (family_of_numbers patterns)
