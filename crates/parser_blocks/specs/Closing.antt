-- What is open round a formula, and that formula.
use Rattle.std.specs.Prelude.{◌≡◌, ◌-◌, Option, Some, None}
use Rattle.syntax.specs.Tree.{Formula, Join, Meet, Negate}
use Rattle.syntax.specs.View.{formula_of}
use Rattle.productions.specs.Grammar.{from, shallow_formula}
use Rattle.productions.specs.Machine as M
use Rattle.productions.specs.declared.past.Past.{Past}
use Rattle.parser_blocks.specs.declared.formulas.Closed.{Closed}
use Rattle.parser_blocks.specs.declared.formulas.Closed.TheVariants as C

-- the whole of what is open round a formula and that formula; brackets are still to be closed
abbrev pub closes : M.Inner → Formula → Past → Option Formula
closes (M.InNegation r s) f p = Some (Negate (from s p) (shallow_formula (r - 1) f))
closes (M.InMeet r s g) f p = Some (Meet (from s p) g (shallow_formula (r - 1) f))
closes (M.InJoin r s g) f p = Some (Join (from s p) g (shallow_formula (r - 1) f))
closes (M.InParens r s) f p = None

abbrev pub IsClosed : M.Inner → Formula → Past → Closed → Type 0
IsClosed g f p (C.Whole x) = closes g f p ≡ Some (formula_of x)
IsClosed g f p (C.Parens r s x) = (g ≡ M.InParens r s) × (f ≡ formula_of x)
