-- What side tests mean.
use Rattle.std.specs.Prelude.{List, [], ◌∷◌, Option, Some, None, option_and_then}
use Rattle.trees.specs.Language.{IsFormula, IsFace, Holds, Alike}
use Rattle.trees.specs.Judgements.{SideCondition}
use Rattle.trees.specs.Things.{Thing, ATree, ASubst, AContext, Meanings, meanings}
use Rattle.conditions.specs.declared.side_test.SideTest.{SideTest}
use Rattle.conditions.specs.declared.side_test.SideTest.TheVariants as test

abbrev pub formula_over : List Thing → Option SideCondition
formula_over (AContext G ∷ ATree r ∷ []) = Some (IsFormula G r)
formula_over _ = None

abbrev pub face_over : List Thing → Option SideCondition
face_over (AContext G ∷ ATree p ∷ []) = Some (IsFace G p)
face_over _ = None

abbrev pub holds_over : List Thing → Option SideCondition
holds_over (AContext G ∷ ATree p ∷ []) = Some (Holds G p)
holds_over _ = None

abbrev pub alike_over : List Thing → Option SideCondition
alike_over (AContext G ∷ ASubst d ∷ ASubst e ∷ []) = Some (Alike G d e)
alike_over _ = None

-- the side condition that a test asks for
abbrev pub asked : Meanings → SideTest → Option SideCondition
asked f (test.IsFormula G r) = option_and_then formula_over (meanings f (G ∷ r ∷ []))
asked f (test.IsFace G p) = option_and_then face_over (meanings f (G ∷ p ∷ []))
asked f (test.Holds G p) = option_and_then holds_over (meanings f (G ∷ p ∷ []))
asked f (test.Alike G d e) = option_and_then alike_over (meanings f (G ∷ d ∷ e ∷ []))
