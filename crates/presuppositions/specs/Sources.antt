-- What sources name, of the premises of a rule.
use Rattle.std.specs.Prelude.{List, [], ◌∷◌, Option, Some, slice_get, option_and_then}
use Rattle.trees.specs.Language.{Language, JudgementOf}
use Rattle.trees.specs.Judgements.{trees, Judgement}
use Rattle.trees.specs.Things.{both, consed}
use Rattle.patterns.specs.Patterns.{patterns, JudgementPattern}
use Rattle.presuppositions.specs.declared.source.Source.{Source}
use Rattle.presuppositions.specs.declared.source.Source.TheVariants as source
use Rattle.presuppositions.specs.Behind.{Views, stands_behind, tree_views, pattern_views}

module _ (L : Language) (views : Views L) where
  abbrev pub source_of : List (JudgementOf L) → Source → Option (JudgementOf L)
  source_of wants (source.Premise k) = slice_get wants k
  source_of wants (source.Behind k l) =
      option_and_then (stands_behind L views l) (slice_get wants k)
  source_of wants (source.Further k l m) =
      option_and_then
      (stands_behind L views m)
      (option_and_then (stands_behind L views l) (slice_get wants k))

  -- what they name, where each names something
  abbrev pub sources_of : List (JudgementOf L) → List Source → Option (List (JudgementOf L))
  sources_of wants [] = Some []
  sources_of wants (s ∷ ss) = both consed (source_of wants s) (sources_of wants ss)

abbrev pub sources : List Judgement → List Source → Option (List Judgement)
sources = sources_of trees tree_views

abbrev pub source_patterns : List JudgementPattern → List Source → Option (List JudgementPattern)
source_patterns = sources_of patterns pattern_views
