-- What the rows of a file mean that were read so far, over the rows of a store.
use Rattle.std.specs.Prelude.{◌≡◌, ◌≤◌, ℕ, List, true, Option, Some, None, IsSome, is_some}
use Rattle.std.specs.Prelude.{unwrap_or, slice_get, map, option_and_then}
use Rattle.std.specs.List.{list_all}
use Rattle.trees.specs.Judgements.{Judgement, TreeRule}
use Rattle.trees.specs.Trees.{Subst, greatest_shift}
use Rattle.trees.specs.Things.{Thing, ASubst}
use Rattle.trees.specs.Claimed.{claimed}
use Rattle.derivation.specs.Meanings.{Meaning, Means, Concludes, Nothing, thing_at}
use Rattle.deriv_file.specs.declared.row.Row.{Row}
use Rattle.derivation.specs.Right.{RightRow}
use Rattle.replay.specs.declared.filed.Filed.{Filed}
use Rattle.replay.specs.declared.filed.Filed.TheVariants as filed

-- what a row of the file means, where its rows are in the store and of the right kinds
abbrev pub filed_meaning : List Thing → Filed → Option Meaning
filed_meaning xs (filed.Thing at) = option_and_then (λ x. Some (Means x)) (slice_get xs at)
filed_meaning xs (filed.Node claim) =
    option_and_then (λ J. Some (Concludes J)) (claimed (slice_get xs) claim)
filed_meaning xs filed.Nothing = Some Nothing

abbrev pub file_meanings : List Thing → List Filed → List Meaning
file_meanings xs rows = map (λ r. unwrap_or (filed_meaning xs r) Nothing) rows

-- every row means something
abbrev pub AllFiled : List Thing → List Filed → Type 0
AllFiled xs rows = list_all (λ r. is_some (filed_meaning xs r)) rows ≡ true

-- the shift of each substitution among the rows is one that files may have
pub record AllFit (before : List Meaning) : Type 0 where
  pub fits : (k : ℕ) (d : Subst) → thing_at before k ≡ Some (ASubst d) → d.shift ≤ greatest_shift

-- the premises that a rule wants
abbrev pub wants_of : Option TreeRule → Option (List Judgement)
wants_of = option_and_then (λ r. Some r.wants)

-- what is kept of a row after rows with these meanings, if the row is right
abbrev pub FiledIs : List Meaning → List Thing → Row → Option Filed → Type 0
FiledIs before xs row None = (m : Meaning) → RightRow before row m → ⊥
FiledIs before xs row (Some r) =
    (m : Meaning) × RightRow before row m × (filed_meaning xs r ≡ Some m)

-- the row of the store that is a thing, if there is one
abbrev pub MadeAs : Option Thing → List Thing → Option ℕ → Type 0
MadeAs x xs None = x ≡ None
MadeAs x xs (Some at) = IsSome x × (slice_get xs at ≡ x)
