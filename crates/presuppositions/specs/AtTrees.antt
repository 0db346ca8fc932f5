-- What an entry states, and what its rows derive, at given parts of its rule.
use Rattle.std.specs.Prelude.{◌≡◌, ℕ, List, [], ◌∷◌, map, Some, option_map}
use Rattle.trees.specs.Judgements.{Judgement, TreeRule}
use Rattle.trees.specs.Things.{Thing, kind_of}
use Rattle.patterns.specs.Values.{parts_of, condition_of}
use Rattle.recipes.specs.declared.row.Row.{Row}
use Rattle.recipes.specs.Statements.{Statement}
use Rattle.recipes.specs.Derivations.{premises_at, conclusions_at, RunsTo}
use Rattle.presuppositions.specs.declared.source.Label.{Label}
use Rattle.presuppositions.specs.declared.source.Source.{Source}
use Rattle.presuppositions.specs.Behind.{behind}
use Rattle.presuppositions.specs.Sources.{sources}

-- At these parts the statement wants what the sources name of the premises of the rule r, has its
-- side conditions, and gives what stands behind its conclusion.
pub record StatesBehind (l : Label) (ss : List Source) (s : Statement) (xs : List Thing)
    (r : TreeRule) : Type 0 where
  pub kinds : map kind_of xs ≡ s.kinds
  pub wants : sources r.wants ss ≡ Some (premises_at s xs)
  pub sides : map (condition_of (parts_of xs)) s.sides ≡ r.sides
  pub gives : option_map (λ J. J ∷ []) (behind l r.gives) ≡ Some (conclusions_at s xs)

-- At these parts the rows derive what stands behind K of what the sources name of these premises.
pub record DerivesBehind (earlier : List Statement) (l : Label) (ss : List Source)
    (rows : List Row) (last : ℕ) (xs : List Thing) (premises : List Judgement)
    (K : Judgement) : Type 0 where
  pub named : List Judgement
  pub sources_are : sources premises ss ≡ Some named
  pub judgement : Judgement
  pub stands : behind l K ≡ Some judgement
  pub runs : RunsTo earlier xs named rows (last ∷ []) (judgement ∷ [])
