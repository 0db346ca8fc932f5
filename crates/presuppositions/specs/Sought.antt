-- What a walk of derivations asks for, to have what an entry starts from.
use Rattle.std.specs.Prelude.{ℕ, List, Bool, true, false, ◌&&◌, ◌||◌, not}
use Rattle.std.specs.Prelude.{Option, None, Some, slice_get, option_and_then}
use Rattle.recipes.specs.declared.row.Row.{Row}
use Rattle.recipes.specs.declared.row.Row.TheVariants as row
use Rattle.trees.specs.Language.{Language, JudgementOf}
use Rattle.presuppositions.specs.declared.source.Label.{Label}
use Rattle.presuppositions.specs.declared.source.Label.TheVariants as label
use Rattle.presuppositions.specs.declared.source.Source.{Source}
use Rattle.presuppositions.specs.declared.source.Source.TheVariants as source
use Rattle.presuppositions.specs.Behind.{Views, stands_behind}

abbrev pub is_none : {A : Type 0} → Option A → Bool
is_none None = true
is_none (Some x) = false

-- the contexts of what is judged
abbrev pub is_of_contexts : Label → Bool
is_of_contexts label.Context = true
is_of_contexts label.From = true
is_of_contexts label.To = true
is_of_contexts _ = false

-- the type of a term, and the sides of an equation
abbrev pub is_of_sides : Label → Bool
is_of_sides label.Type = true
is_of_sides label.Left = true
is_of_sides label.Right = true
is_of_sides _ = false

-- the parts of a type
abbrev pub is_of_parts : Label → Bool
is_of_parts l = not (is_of_contexts l || is_of_sides l)

-- contexts are had of contexts alone, types and sides of both
abbrev pub goes_on : Label → Label → Bool
goes_on l m = is_of_contexts m || (is_of_sides l && is_of_sides m)

module _ (L : Language) (views : Views L) where
  -- a context whose last entry has no type
  abbrev pub has_no_type : Option (JudgementOf L) → Bool
  has_no_type o = is_none (option_and_then (stands_behind L views label.Type) o)

  -- What stands behind premises is asked of these. What stands further behind is in sight then: the
  -- last entry of a context, what is before a name or a face, the parts of a type.
  abbrev pub is_sought : List (JudgementOf L) → Label → Source → Bool
  is_sought wants l (source.Premise k) = true
  is_sought wants l (source.Behind k m) = goes_on l m
  is_sought wants l (source.Further k label.Context label.Type) = true
  is_sought wants l (source.Further k label.Context label.Context) =
      has_no_type (option_and_then (stands_behind L views label.Context) (slice_get wants k))
  is_sought wants l (source.Further k label.Type m) = is_of_sides l && is_of_parts m
  is_sought wants l _ = false

-- How many numbers a row makes at most. An earlier recipe has at most 16 conclusions.
abbrev pub numbers_made : Row → ℕ
numbers_made (row.Derive k parts nodes) = 16
numbers_made _ = 1
