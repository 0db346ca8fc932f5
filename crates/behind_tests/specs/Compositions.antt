-- What the derivations by the rules of composition that unfold state.
use Rattle.std.specs.Prelude.{List, [], ◌∷◌}
use Rattle.trees.specs.declared.kind.PartKind.{PartKind}
use Rattle.trees.specs.Language.{Language, JudgementOf, TmEq}
use Rattle.patterns.specs.Patterns.{patterns}
use Rattle.rules.specs.Table.{comp, comp_glue, comp_path, comp_pi, comp_sig, comp_u, empty, f0}
use Rattle.rules.specs.Table.{glue, glue_type, lam, nat, pair, pathp, pi, plam, sig, universe, zero}
use Rattle.recipes.specs.Statements.{Claimed, Statement, stated}

module _ (L : Language) where
  abbrev given : List (JudgementOf L) → Claimed L
  given gives = record { wants = []; sides = []; gives = gives }

  abbrev same : L.tree
  same = lam L (nat L) (L.var 0)

  abbrev two : L.tree
  two = pair L (zero L) (zero L)

  abbrev still : L.tree
  still = plam L (zero L)

  -- on the face that is true nowhere
  abbrev composed : L.tree → L.tree → L.tree → L.tree → JudgementOf L
  composed A b a c = TmEq L.nil (comp L A (f0 L) b a) c A

  abbrev compositions : Claimed L
  compositions = given (
      composed (pi L (nat L) (nat L)) same same (comp_pi L (nat L) (nat L) (f0 L) same same)
      ∷ composed (sig L (nat L) (nat L)) two two (comp_sig L (nat L) (nat L) (f0 L) two two)
      ∷ composed
      (pathp L (nat L) (zero L) (zero L))
      still
      still
      (comp_path L (nat L) (zero L) (zero L) (f0 L) still still)
      ∷ composed (universe L) (nat L) (nat L) (comp_u L (f0 L) (nat L) (nat L))
      ∷ []
      )

  -- zero, glued on that face
  abbrev zero_glued : L.tree
  zero_glued = glue L (f0 L) (zero L) (zero L)

  abbrev glued_composition : Claimed L
  glued_composition = given (
      composed
      (glue_type L (nat L) (f0 L) (nat L) (empty L))
      (empty L)
      zero_glued
      (comp_glue L (nat L) (f0 L) (nat L) (empty L) (f0 L) (empty L) zero_glued)
      ∷ []
      )

abbrev none : List PartKind
none = []

abbrev pub compositions_statement : Statement
compositions_statement = stated none (compositions patterns)

abbrev pub glued_composition_statement : Statement
glued_composition_statement = stated none (glued_composition patterns)
