-- A recipe that passes the test derives what it states.
use Rattle.std.proofs.Common.{◌≡◌, ℕ, List, [], ◌∷◌, ◌++◌, map, take, Bool, true, false, cond, refl, sym, ◌∙◌, ap, subst, Option, Some, None}
use Rattle.std.specs.Prelude.{slice_get, option_map, option_and_then}
use Rattle.std.specs.List.{All}
use Rattle.std.proofs.lemmas.List.{map-append}
use Rattle.std.proofs.lemmas.Option.{slice_get-map}
use Rattle.trees.specs.Trees.{greatest_shift}
use Rattle.trees.specs.Judgements.{Judgement, trees}
use Rattle.trees.specs.Things.{Thing, meanings}
use Rattle.theory.specs.declared.rule.RuleName.{RuleName}
use Rattle.patterns.specs.Values.{Parts, parts_of, rule_of, judged_of, tested_of, judgement_of}
use Rattle.patterns.specs.Normals.{normals, unknown}
use Rattle.patterns.specs.Fillings.{filled_judgement, filled_condition}
use Rattle.patterns.specs.Tests.{NormalJudgement, NormalCondition}
use Rattle.patterns.proofs.SameLaws.{both}
use Rattle.patterns.proofs.Soundness.{unknown-fits}
use Rattle.conditions.specs.Sides.{SideHolds}
use Rattle.recipes.specs.declared.row.Row.{Row}
use Rattle.recipes.specs.declared.row.Row.TheVariants as row
use Rattle.recipes.specs.Statements.{Statement, pattern_of, rule_statement}
use Rattle.recipes.specs.Made.{Made, AThing, node_at, built_by, ShiftIsAtMost, greatest_part_shift}
use Rattle.recipes.specs.Derivations.{premises_at, conclusions_at, MayStandAt, Concludes, Follows, ThenTakes, Makes, Runs, RunsTo, Derives}
use Rattle.recipes.specs.Normally.{NormalThing, NormalMade, NThing, NNode, unknown_from, normal_at, normal_node_at, built_normally}
use Rattle.recipes.specs.Checks.{SideTest, IsSound, option_within, then_takes, used, made_normally, run_normally, concludes_all, outs_conclude, is_derived}
use Rattle.recipes.proofs.Ties.{rule-pattern, count-pattern}
use Rattle.recipes.proofs.FilledThings.{filled_thing, filled_made, thing_at-filled, nodes_at-filled, built-filled, unknown-filled}
use Rattle.recipes.proofs.Uses.{same_conclusions-true, AreSmall, parts-small, within-filled, judged-filled, tested-filled, Stands, stands}

-- what is wanted of an option that is there
record ThenSome {A B : Type 0} (f : A → Option B) (o : Option A) (y : B) : Type 0 where
  value : A
  is : o ≡ Some value
  gives : f value ≡ Some y

then_some : {A B : Type 0} (f : A → Option B) (o : Option A) (y : B) → option_and_then f o ≡ Some y → ThenSome f o y
then_some f None y e = absurd (cc e)
then_some f (Some x) y e = record { value = x; is = refl; gives = e }

cond_some : {A : Type 0} (b : Bool) (o : Option A) (y : A) → cond b o None ≡ Some y → (b ≡ true) × (o ≡ Some y)
cond_some true o y e = (refl, e)
cond_some false o y e = absurd (cc e)

option-within : (v : Parts trees) → AreSmall v → (most : ℕ) (o : Option NormalThing) → option_within most o ≡ true → (x : Thing) → option_map (filled_thing v) o ≡ Some x → ShiftIsAtMost most x
option-within v small most None h x e = absurd (cc e)
option-within v small most (Some y) h x e =
    let same : filled_thing v y ≡ x = cc in
    subst (ShiftIsAtMost most) same (within-filled v small most y h)

module _ (follows : SideTest) (sound : IsSound follows) (facts : List NormalCondition) (v : Parts trees) (small : AreSmall v) (holds : All SideHolds (map (filled_condition v) facts)) where
  takes-filled : (known : List NormalMade) (r : Row) → then_takes known r ≡ true → ThenTakes (map (filled_made v) known) r
  takes-filled known (row.Then d e) h =
      let f = both (option_within greatest_shift (normal_at known d)) _ h in (
        λ x at. option-within v small greatest_shift (normal_at known d) f.0 x (sym (thing_at-filled v known d) ∙ at),
        λ x at. option-within v small greatest_shift (normal_at known e) f.1 x (sym (thing_at-filled v known e) ∙ at),
      )
  takes-filled known _ h = tt

  abbrev fill : List NormalMade → List Made
  fill known = map (filled_made v) known

  concludes : (known : List NormalMade) (name : RuleName) (ps ns : List ℕ) (new : List NormalMade) → (s : Stands follows sound facts v small holds known greatest_shift ps ns (rule_statement name) new) → Concludes (fill known) name ps ns (judgement_of (parts_of s.things) (pattern_of name).gives)
  concludes known name ps ns new s =
      let P : ℕ → Type 0 = λ n. meanings (node_at (fill known)) (take n ns) ≡ Some (premises_at (rule_statement name) s.things) in
      record {
        things = s.things;
        premises = premises_at (rule_statement name) s.things;
        things_are = s.things_are;
        premises_are = subst P (count-pattern name s.things s.kinds) s.premises_are;
        shifts = s.shifts;
        instance = record {
          rule = rule_of (parts_of s.things) (pattern_of name);
          is = rule-pattern name s.things s.kinds;
          wants = refl;
          sides = s.sides;
          gives = refl;
        };
      }

  follows_earlier : (known : List NormalMade) (ps ns : List ℕ) (s : Statement) (new : List NormalMade) → (u : Stands follows sound facts v small holds known greatest_part_shift ps ns s new) → Follows (fill known) s ps ns (conclusions_at s u.things)
  follows_earlier known ps ns s new u = record {
    things = u.things;
    things_are = u.things_are;
    premises_are = u.premises_are;
    may_stand = record { kinds = u.kinds; shifts = u.shifts; sides = u.sides };
    given = refl;
  }

  -- a row that makes a thing
  builds : (parts : List NormalThing) (known : List NormalMade) (r : Row) (new : List NormalMade) → cond (then_takes known r) (option_and_then (λ x. Some (NThing x ∷ [])) (built_normally parts known r)) None ≡ Some new → (x : Thing) × (built_by (map (filled_thing v) parts) (fill known) r ≡ Some x) × ThenTakes (fill known) r × (fill new ≡ AThing x ∷ [])
  builds parts known r new e =
      let c = cond_some (then_takes known r) _ new e in
      let b = then_some (λ x. Some (NThing x ∷ [])) (built_normally parts known r) new c.1 in
      let same : NThing b.value ∷ [] ≡ new = cc in (
        filled_thing v b.value,
        built-filled v parts known r ∙ ap (option_map (filled_thing v)) b.is,
        takes-filled known r c.0,
        ap fill (sym same),
      )

  makes : (earlier : List Statement) (parts : List NormalThing) (js : List NormalJudgement) (known : List NormalMade) (r : Row) (new : List NormalMade) → made_normally follows facts earlier parts js known r ≡ Some new → Makes earlier (map (filled_thing v) parts) (map (filled_judgement v) js) (fill known) r (fill new)
  makes earlier parts js known (row.Premise k) new e =
      let b = then_some (λ J. Some (NNode J ∷ [])) (slice_get js k) new e in
      let same : NNode b.value ∷ [] ≡ new = cc in (
        filled_judgement v b.value,
        slice_get-map (filled_judgement v) js k ∙ ap (option_map (filled_judgement v)) b.is,
        ap fill (sym same),
      )
  makes earlier parts js known (row.Conclude name ps ns) new e =
      let s = stands follows sound facts v small holds known greatest_shift ps ns (rule_statement name) new e in
      (judgement_of (parts_of s.things) (pattern_of name).gives, concludes known name ps ns new s, s.new_are)
  makes earlier parts js known (row.Derive k ps ns) new e =
      let b = then_some (used follows facts known greatest_part_shift ps ns) (slice_get earlier k) new e in
      let s = stands follows sound facts v small holds known greatest_part_shift ps ns b.value new b.gives in (
        conclusions_at b.value s.things,
        record { statement = b.value; is = b.is; follows = follows_earlier known ps ns b.value new s },
        s.new_are,
      )
  makes earlier parts js known r new e = builds parts known r new e

  runs : (earlier : List Statement) (parts : List NormalThing) (js : List NormalJudgement) (known : List NormalMade) (rows : List Row) (whole : List NormalMade) → run_normally follows facts earlier parts js known rows ≡ Some whole → Runs earlier (map (filled_thing v) parts) (map (filled_judgement v) js) (fill known) rows (fill whole)
  runs earlier parts js known [] whole e = let same : known ≡ whole = cc in ap fill same
  runs earlier parts js known (r ∷ rows) whole e =
      let b = then_some (λ new. run_normally follows facts earlier parts js (known ++ new) rows) (made_normally follows facts earlier parts js known r) whole e in
      let R : List Made → Type 0 = λ z. Runs earlier (map (filled_thing v) parts) (map (filled_judgement v) js) z rows (fill whole) in (
        fill b.value,
        (
          makes earlier parts js known r b.value b.is,
          subst R (map-append (filled_made v) known b.value) (runs earlier parts js (known ++ b.value) rows whole b.gives),
        ),
      )

-- the outs

record Ends (outs : List ℕ) (js : List NormalJudgement) (o : Option (List NormalMade)) : Type 0 where
  whole : List NormalMade
  is : o ≡ Some whole
  conclude : meanings (normal_node_at whole) outs ≡ Some js

concluded : (js : List NormalJudgement) (o : Option (List NormalJudgement)) → concludes_all js o ≡ true → o ≡ Some js
concluded js None h = absurd (cc h)
concluded js (Some is) h = ap Some (same_conclusions-true is js h)

ends : (outs : List ℕ) (js : List NormalJudgement) (o : Option (List NormalMade)) → outs_conclude outs js o ≡ true → Ends outs js o
ends outs js None h = absurd (cc h)
ends outs js (Some whole) h = record { whole = whole; is = refl; conclude = concluded js _ h }

derived-at : (follows : SideTest) → IsSound follows → (earlier : List Statement) (s : Statement) (rows : List Row) (outs : List ℕ) → is_derived follows earlier s rows outs ≡ true → (parts : List Thing) → MayStandAt s parts → RunsTo earlier parts (premises_at s parts) rows outs (conclusions_at s parts)
derived-at follows sound earlier s rows outs h parts may =
    let v = parts_of parts in
    let js = map (judged_of normals unknown) s.wants in
    let gives = map (judged_of normals unknown) s.gives in
    let facts = map (tested_of normals unknown) s.sides in
    let small = parts-small parts may.shifts in
    let holds = subst (All SideHolds) (sym (tested-filled v unknown v (unknown-fits v) s.sides)) may.sides in
    let e = ends outs gives (run_normally follows facts earlier (unknown_from 0 s.kinds) js [] rows) h in
    let R : List Thing → List Judgement → Type 0 = λ xs premises. Runs earlier xs premises [] rows (map (filled_made v) e.whole) in
    let ran : R (map (filled_thing v) (unknown_from 0 s.kinds)) (map (filled_judgement v) js) = runs follows sound facts v small holds earlier (unknown_from 0 s.kinds) js [] rows e.whole e.is in
    let at_parts : R parts (map (filled_judgement v) js) = subst (λ xs. R xs (map (filled_judgement v) js)) (unknown-filled parts s.kinds may.kinds) ran in
    record {
      whole = map (filled_made v) e.whole;
      runs = subst (R parts) (judged-filled v unknown v (unknown-fits v) s.wants) at_parts;
      outs_are =
          nodes_at-filled v e.whole outs
          ∙ ap (option_map (map (filled_judgement v))) e.conclude
          ∙ ap Some (judged-filled v unknown v (unknown-fits v) s.gives);
    }

pub derives-sound : (follows : SideTest) → IsSound follows → (earlier : List Statement) (s : Statement) (rows : List Row) (outs : List ℕ) → is_derived follows earlier s rows outs ≡ true → Derives earlier s rows outs
derives-sound follows sound earlier s rows outs h = record { derives = derived-at follows sound earlier s rows outs h }
