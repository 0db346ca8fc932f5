-- Terms that are literally forms, and what uses them.
use Rattle.std.specs.Prelude.{List, [], ◌∷◌}
use Rattle.trees.specs.declared.kind.PartKind.{PartKind}
use Rattle.trees.specs.Language.{Language, JudgementOf, Tm, TyEq}
use Rattle.patterns.specs.Patterns.{patterns}
use Rattle.rules.specs.Table.{app, fst, i0, lam, nat, pair, papp, pathp, pi, plam, sig, snd}
use Rattle.rules.specs.Table.{universe, zero}
use Rattle.recipes.specs.Statements.{Claimed, Statement, stated}

module _ (L : Language) where
  abbrev given : List (JudgementOf L) → Claimed L
  given gives = record { wants = []; sides = []; gives = gives }

  abbrev function : L.tree
  function = lam L (nat L) (L.var 0)

  abbrev of_numbers : L.tree
  of_numbers = pi L (nat L) (nat L)

  abbrev two_zeros : L.tree
  two_zeros = pair L (zero L) (zero L)

  abbrev constant_path : L.tree
  constant_path = plam L (zero L)

  -- at an application that equals its type
  abbrev pub conversions : Claimed L
  conversions =
      given (Tm L.nil function (app L (lam L (universe L) (L.var 0)) of_numbers) ∷ [])

  abbrev pub pushed_entry : Claimed L
  pushed_entry = given (Tm L.nil function of_numbers ∷ [])

  abbrev pub made_and_used : Claimed L
  made_and_used = given (
      Tm L.nil two_zeros (sig L (nat L) (nat L))
      ∷ Tm L.nil constant_path (pathp L (nat L) (zero L) (zero L))
      ∷ Tm L.nil (nat L) (universe L)
      ∷ Tm L.nil (app L function (zero L)) (nat L)
      ∷ Tm L.nil (fst L two_zeros) (nat L)
      ∷ Tm L.nil (snd L two_zeros) (nat L)
      ∷ Tm L.nil (papp L constant_path (i0 L)) (nat L)
      ∷ []
      )

  abbrev pub equal_numbers : Claimed L
  equal_numbers = given (TyEq L.nil (nat L) (nat L) ∷ [])

abbrev none : List PartKind
none = []

abbrev pub conversions_statement : Statement
conversions_statement = stated none (conversions patterns)

abbrev pub pushed_entry_statement : Statement
pushed_entry_statement = stated none (pushed_entry patterns)

abbrev pub made_and_used_statement : Statement
made_and_used_statement = stated none (made_and_used patterns)

abbrev pub equal_numbers_statement : Statement
equal_numbers_statement = stated none (equal_numbers patterns)
