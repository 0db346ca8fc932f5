-- A test of a recipe, at parts of which nothing is known: whether its rows are right and derive
-- what it states.
use Rattle.std.specs.Prelude.{◌≡◌, ℕ, ◌+◌, nat_le, List, [], ◌∷◌, ◌++◌, map, take, length}
use Rattle.std.specs.Prelude.{Bool, true, false, ◌&&◌, cond, slice_get, Option, Some, None}
use Rattle.std.specs.Prelude.{option_and_then}
use Rattle.std.specs.List.{All, list_all}
use Rattle.trees.specs.declared.kind.PartKind.{PartKind}
use Rattle.trees.specs.declared.kind.PartKind.TheVariants as part
use Rattle.trees.specs.Trees.{greatest_shift}
use Rattle.trees.specs.Judgements.{trees}
use Rattle.trees.specs.Things.{meanings}
use Rattle.patterns.specs.Values.{Parts, judged_of, tested_of}
use Rattle.patterns.specs.Normals.{NormalSubst, NShift, NPush, NRest, normals, unknown}
use Rattle.patterns.specs.Fillings.{filled_condition}
use Rattle.patterns.specs.Tests.{NormalJudgement, NormalCondition, same_normal_judgement}
use Rattle.conditions.specs.Sides.{SideHolds}
use Rattle.recipes.specs.declared.row.Row.{Row}
use Rattle.recipes.specs.declared.row.Row.TheVariants as row
use Rattle.recipes.specs.Statements.{Statement, rule_statement}
use Rattle.recipes.specs.Made.{greatest_part_shift}
use Rattle.recipes.specs.Normally.{NormalThing, NSubst, NormalMade, NThing}
use Rattle.recipes.specs.Normally.{NNode, normal_kind, unknown_from, normal_parts, normal_at}
use Rattle.recipes.specs.Normally.{normal_node_at, built_normally}

-- A test of side conditions: whether one follows from others, at all values of the parts. It is a
-- choice of the recipe's crate.
abbrev pub SideTest : Type 0
SideTest = List NormalCondition → NormalCondition → Bool

-- at each value of the parts, what it accepts follows
abbrev pub IsSound : SideTest → Type 0
IsSound follows = (v : Parts trees) (facts : List NormalCondition) →
    All SideHolds (map (filled_condition v) facts) →
    (c : NormalCondition) → follows facts c ≡ true → SideHolds (filled_condition v c)

-- the test that accepts none
abbrev pub no_sides : SideTest
no_sides facts c = false

-- no shift of a part is greater than `greatest_part_shift`, so none of this is greater than that
abbrev pub most_shift : NormalSubst → ℕ
most_shift (NShift n) = n
most_shift (NPush s t) = most_shift s
most_shift (NRest n k s) = greatest_part_shift + n + most_shift s

abbrev pub is_shift_within : ℕ → NormalThing → Bool
is_shift_within most (NSubst d) = nat_le (most_shift d) most
is_shift_within most _ = true

abbrev pub option_within : ℕ → Option NormalThing → Bool
option_within most None = true
option_within most (Some x) = is_shift_within most x

abbrev pub then_takes : List NormalMade → Row → Bool
then_takes known (row.Then d e) =
    option_within greatest_shift (normal_at known d)
    && option_within greatest_shift (normal_at known e)
then_takes known _ = true

abbrev pub same_kind : PartKind → PartKind → Bool
same_kind part.Term part.Term = true
same_kind part.Subst part.Subst = true
same_kind part.Context part.Context = true
same_kind _ _ = false

abbrev pub same_kinds : List PartKind → List PartKind → Bool
same_kinds [] [] = true
same_kinds (k ∷ ks) (l ∷ ls) = same_kind k l && same_kinds ks ls
same_kinds _ _ = false

abbrev pub same_conclusions : List NormalJudgement → List NormalJudgement → Bool
same_conclusions [] [] = true
same_conclusions (i ∷ is) (j ∷ js) = same_normal_judgement i j && same_conclusions is js
same_conclusions _ _ = false

module _ (follows : SideTest) (facts : List NormalCondition) where
  -- the statement may stand at these things over nodes that conclude this
  abbrev pub may_use : ℕ → Statement → List NormalThing → List NormalJudgement → Bool
  may_use most s xs js =
      let v = normal_parts xs in
      same_kinds (map normal_kind xs) s.kinds
      && (list_all (is_shift_within most) xs
      && (same_conclusions (map (judged_of normals v) s.wants) js
      && list_all (λ c. follows facts (tested_of normals v c)) s.sides))

  -- what the statement gives at things, over nodes, where it may stand
  abbrev pub given : ℕ → Statement → Option (List NormalThing) → Option (List NormalJudgement)
      → Option (List NormalMade)
  given most s (Some xs) (Some js) =
      cond (may_use most s xs js)
      (Some (map (λ j. NNode (judged_of normals (normal_parts xs) j)) s.gives))
      None
  given most s _ _ = None

  abbrev pub used : List NormalMade → ℕ → List ℕ → List ℕ → Statement → Option (List NormalMade)
  used known most ps ns s =
      given most s
      (meanings (normal_at known) (take (length s.kinds) ps))
      (meanings (normal_node_at known) (take (length s.wants) ns))

  -- what a row makes, where it is right
  abbrev pub made_normally : List Statement → List NormalThing → List NormalJudgement
      → List NormalMade → Row → Option (List NormalMade)
  made_normally earlier parts premises known (row.Premise k) =
      option_and_then (λ J. Some (NNode J ∷ [])) (slice_get premises k)
  made_normally earlier parts premises known (row.Conclude name ps ns) =
      used known greatest_shift ps ns (rule_statement name)
  made_normally earlier parts premises known (row.Derive k ps ns) =
      option_and_then (used known greatest_part_shift ps ns) (slice_get earlier k)
  made_normally earlier parts premises known r =
      cond (then_takes known r)
      (option_and_then (λ x. Some (NThing x ∷ [])) (built_normally parts known r))
      None

  abbrev pub run_normally : List Statement → List NormalThing → List NormalJudgement
      → List NormalMade → List Row → Option (List NormalMade)
  run_normally earlier parts premises known [] = Some known
  run_normally earlier parts premises known (r ∷ rows) =
      option_and_then
      (λ new. run_normally earlier parts premises (known ++ new) rows)
      (made_normally earlier parts premises known r)

abbrev pub concludes_all : List NormalJudgement → Option (List NormalJudgement) → Bool
concludes_all js None = false
concludes_all js (Some is) = same_conclusions is js

abbrev pub outs_conclude : List ℕ → List NormalJudgement → Option (List NormalMade) → Bool
outs_conclude outs js None = false
outs_conclude outs js (Some whole) = concludes_all js (meanings (normal_node_at whole) outs)

-- the rows are right, and those named by `outs` conclude what the statement gives
abbrev pub is_derived : SideTest → List Statement → Statement → List Row → List ℕ → Bool
is_derived follows earlier s rows outs =
    let js = map (judged_of normals unknown) s.wants in
    let facts = map (tested_of normals unknown) s.sides in
    outs_conclude outs
    (map (judged_of normals unknown) s.gives)
    (run_normally follows facts earlier (unknown_from 0 s.kinds) js [] rows)
