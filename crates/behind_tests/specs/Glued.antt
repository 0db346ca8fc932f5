-- What the derivation by the rules of Glue, systems and numbers states.
use Rattle.std.specs.Prelude.{List, [], ◌∷◌}
use Rattle.trees.specs.declared.kind.PartKind.{PartKind}
use Rattle.trees.specs.Language.{Language, TmEq}
use Rattle.patterns.specs.Patterns.{patterns}
use Rattle.rules.specs.Table.{empty, f0, glue, lam, nat, natrec, suc, unglue, zero}
use Rattle.recipes.specs.Statements.{Claimed, Statement, stated}

module _ (L : Language) where
  -- zero, glued on the face that is true nowhere
  abbrev glued_zero : L.tree
  glued_zero = glue L (f0 L) (zero L) (zero L)

  -- a number and the number that is recursed to, to the successor of the latter
  abbrev next : L.tree
  next = lam L (nat L) (lam L (nat L) (suc L (L.var 0)))

  abbrev glued : Claimed L
  glued = record {
    wants = [];
    sides = [];
    gives =
        TmEq L.nil (unglue L (f0 L) (nat L) (empty L) glued_zero) (zero L) (nat L)
        ∷ TmEq L.nil (natrec L (nat L) (zero L) next (zero L)) (zero L) (nat L)
        ∷ [];
  }

abbrev none : List PartKind
none = []

abbrev pub glued_statement : Statement
glued_statement = stated none (glued patterns)
