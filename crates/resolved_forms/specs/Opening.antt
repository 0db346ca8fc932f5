-- Codes that stand opened under a name or a variable.
use Rattle.std.specs.Prelude.{◌≡◌, ℕ}
use Rattle.layout_lexer.specs.declared.token.Span.{Span}
use Rattle.trees.specs.Trees.{Tree}
use Rattle.translation.specs.Forms.{Means}
use Rattle.codes.specs.declared.code.Code.{Code}
use Rattle.codes.specs.declared.code.Opened.{Opened}
use Rattle.codes.specs.declared.code.Opened.TheVariants.{Under}
use Rattle.codes.specs.Codes.{meaning}
use Rattle.codes.specs.Shapes.{Shape, shape}

-- What stands there is a code of this meaning and of this shape.
pub record IsUnder (s : Span) (f : Means ℕ Tree) (like : Shape) (o : Opened) : Type 0 where
  pub code : Code
  pub opened : o ≡ Under s code
  pub means : meaning code ≡ f
  pub shaped : shape code ≡ like
