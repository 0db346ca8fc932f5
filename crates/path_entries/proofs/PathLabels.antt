-- The labels of which nothing stands behind what these rules conclude.
use Rattle.std.proofs.Common.{◌≡◌, List, [], ◌∷◌, true, refl}
use Rattle.std.specs.List.{list_all}
use Rattle.theory.specs.declared.rule.RuleName.TheVariants.{Paths}
use Rattle.theory.specs.declared.rule.PathRule.{PathRule}
use Rattle.theory.specs.declared.rule.PathRule.TheVariants as rule
use Rattle.presuppositions.specs.declared.source.Label.{Label}
use Rattle.presuppositions.specs.declared.source.Label.TheVariants as label
use Rattle.presuppositions.specs.Entries.{has_none}

abbrev pub others : List Label
others = label.From ∷ label.To ∷ label.Domain ∷ label.Codomain ∷ []

-- the first line makes the second run through the other rules
pub none-others : (r : PathRule) → list_all (has_none (Paths r)) others ≡ true
none-others rule.PathTy = refl
none-others _ = refl
