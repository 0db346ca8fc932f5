-- A formula of a code without where its parts lie in memory.
use Rattle.std.specs.Prelude.{ℕ}
use Rattle.layout_lexer.specs.declared.token.Span.{Span}
use Rattle.codes.specs.declared.formula.Formula.{Formula, Zero as Zero', One as One'}
use Rattle.codes.specs.declared.formula.Formula.{Bound as Bound', Negate', Meet', Join'}

pub data FormulaShape : Type 0 where
  Zero : Span → FormulaShape
  One : Span → FormulaShape
  -- a name of the interval, by its index
  Bound : Span → ℕ → FormulaShape
  Negate : Span → FormulaShape → FormulaShape
  Meet : Span → FormulaShape → FormulaShape → FormulaShape
  Join : Span → FormulaShape → FormulaShape → FormulaShape

abbrev pub formula_shape : Formula → FormulaShape
formula_shape (Zero' s) = Zero s
formula_shape (One' s) = One s
formula_shape (Bound' s k) = Bound s k
formula_shape (Negate' s p f) = Negate s (formula_shape f)
formula_shape (Meet' s p f q g) = Meet s (formula_shape f) (formula_shape g)
formula_shape (Join' s p f q g) = Join s (formula_shape f) (formula_shape g)
