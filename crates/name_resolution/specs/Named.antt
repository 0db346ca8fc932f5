-- Which code a name of a text becomes, by what the names in scope say.
use Rattle.std.specs.Prelude.{ℕ, List, map}
use Rattle.layout_lexer.specs.declared.token.Span.{Span}
use Rattle.syntax.specs.declared.formula.Equation.{Equation}
use Rattle.syntax.specs.Tree as text
use Rattle.translation.specs.declared.built_in.BuiltIn.TheVariants as built_in
use Rattle.translation.specs.Texts.{word}
use Rattle.codes.specs.declared.formula.Equation.{Equation as CodeEquation}
use Rattle.codes.specs.FormulaShapes as formula
use Rattle.codes.specs.FormulaShapes.{FormulaShape}
use Rattle.codes.specs.Shapes as code
use Rattle.codes.specs.Shapes.{Shape}
use Rattle.scopes.specs.declared.names.Found.{Found}
use Rattle.scopes.specs.declared.names.Found.TheVariants as found
use Rattle.scopes.specs.Finding.{Named, find}

-- A name where a term is wanted. What is refused there stands for the universe.
abbrev pub as_term : Span → Found → Shape
as_term s (found.Variable k) = code.Bound s k
as_term s (found.Interval k) = code.Universe s
as_term s (found.Definition n) = code.Defined s n
as_term s (found.BuiltIn built_in.Nat) = code.Nat s
as_term s (found.BuiltIn built_in.Zero) = code.Zero s
as_term s (found.BuiltIn built_in.Suc) = code.successor s
as_term s (found.BuiltIn built_in.NatRec) = code.Universe s
as_term s found.Nothing = code.Universe s

-- The index of a name of the interval. What is refused there stands for the innermost.
abbrev pub as_index : Found → ℕ
as_index (found.Variable k) = 0
as_index (found.Interval k) = k
as_index (found.Definition n) = 0
as_index (found.BuiltIn b) = 0
as_index found.Nothing = 0

module _ (bytes : List ℕ) (names : List Named) where
  -- what is written there stands for
  abbrev pub found_at : Span → Found
  found_at s = find names (word bytes s)

  abbrev pub formula_in : text.Formula → FormulaShape
  formula_in (text.Zero s) = formula.Zero s
  formula_in (text.One s) = formula.One s
  formula_in (text.Variable s) = formula.Bound s (as_index (found_at s))
  formula_in (text.Negate s f) = formula.Negate s (formula_in f)
  formula_in (text.Meet s f g) = formula.Meet s (formula_in f) (formula_in g)
  formula_in (text.Join s f g) = formula.Join s (formula_in f) (formula_in g)

  abbrev pub equation_in : Equation → CodeEquation
  equation_in e = record { index = as_index (found_at e.name); end = e.end }

  abbrev pub equations_in : List Equation → List CodeEquation
  equations_in = map equation_in
