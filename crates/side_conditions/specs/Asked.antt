-- What side tests ask about.
use Rattle.std.specs.Prelude.{ℕ}
use Rattle.conditions.specs.declared.side_test.SideTest.{SideTest}
use Rattle.conditions.specs.declared.side_test.SideTest.TheVariants.{IsFormula, IsFace, Holds}
use Rattle.conditions.specs.declared.side_test.SideTest.TheVariants.{Alike}

-- the row of the context
abbrev pub ctx_in : SideTest → ℕ
ctx_in (IsFormula G r) = G
ctx_in (IsFace G p) = G
ctx_in (Holds G p) = G
ctx_in (Alike G d e) = G
