-- What an entry states, and what its rows derive, at given parts of its rule.
use Rattle.std.proofs.Common.{◌≡◌, ℕ, List, [], ◌∷◌, map, refl, sym, ◌∙◌, ap, subst, Option, Some, None}
use Rattle.std.specs.Prelude.{option_map, IsSome}
use Rattle.std.specs.List.{All}
use Rattle.theory.specs.declared.rule.RuleName.{RuleName}
use Rattle.theory.specs.RuleNames.{kinds_of}
use Rattle.trees.specs.Judgements.{Judgement, TreeRule}
use Rattle.trees.specs.Things.{Thing, kind_of, both}
use Rattle.patterns.specs.Patterns.{JudgementPattern}
use Rattle.patterns.specs.Values.{parts_of, rule_of}
use Rattle.conditions.specs.Sides.{SideHolds}
use Rattle.rules.specs.Rules.{rule_at}
use Rattle.rules.specs.Instances.{IsInstance}
use Rattle.rules.proofs.TableLaws.{rule_kinds}
use Rattle.recipes.specs.declared.row.Row.{Row}
use Rattle.recipes.specs.Statements.{Statement, pattern_of}
use Rattle.recipes.specs.Made.{ShiftIsAtMost, greatest_part_shift}
use Rattle.recipes.specs.Derivations.{MayStandAt, RunsTo, premises_at}
use Rattle.recipes.proofs.Ties.{rule-pattern}
use Rattle.presuppositions.specs.declared.source.Label.{Label}
use Rattle.presuppositions.specs.declared.source.Source.{Source}
use Rattle.presuppositions.specs.Behind.{behind, behind_pattern}
use Rattle.presuppositions.specs.Sources.{sources, source_patterns}
use Rattle.presuppositions.specs.Entries.{over_rule, entry_statement, IsEntry}
use Rattle.presuppositions.specs.AtTrees.{StatesBehind, DerivesBehind}
use Rattle.presuppositions.proofs.BehindLaws.{behind-values, source-values}

abbrev made_over : RuleName → List JudgementPattern → JudgementPattern → Statement
made_over name wants gives = record {
  kinds = kinds_of name;
  wants = wants;
  sides = (pattern_of name).sides;
  gives = gives ∷ [];
}

module _ (name : RuleName) (l : Label) (ss : List Source) (s : Statement) (xs : List Thing) (kinds : map kind_of xs ≡ kinds_of name) where
  stated-at : (o : Option (List JudgementPattern)) (p : Option JudgementPattern) → source_patterns (pattern_of name).wants ss ≡ o → behind_pattern l (pattern_of name).gives ≡ p → both (over_rule name) o p ≡ Some s → StatesBehind l ss s xs (rule_of (parts_of xs) (pattern_of name))
  stated-at None p o_is p_is e = absurd (cc e)
  stated-at (Some Js) None o_is p_is e = absurd (cc e)
  stated-at (Some Js) (Some K) o_is p_is e =
      let v = parts_of xs in
      let r = rule_of v (pattern_of name) in
      let made : made_over name Js K ≡ s = cc in
      subst (λ z. StatesBehind l ss z xs r) made (record {
        kinds = kinds;
        wants = source-values v (pattern_of name).wants Js ss o_is;
        sides = refl;
        gives = ap (option_map (λ J. J ∷ [])) (behind-values v l (pattern_of name).gives K p_is);
      })

  pub entry-at : entry_statement name l ss ≡ Some s → (r : TreeRule) → rule_at name xs ≡ Some r → StatesBehind l ss s xs r
  entry-at is r r_is =
      let e : Some (rule_of (parts_of xs) (pattern_of name)) ≡ Some r = sym (rule-pattern name xs kinds) ∙ r_is in
      let same : rule_of (parts_of xs) (pattern_of name) ≡ r = cc in
      subst (λ z. StatesBehind l ss s xs z) same (stated-at (source_patterns (pattern_of name).wants ss) (behind_pattern l (pattern_of name).gives) refl refl is)

record First (o : Option Judgement) (js : List Judgement) : Type 0 where
  judgement : Judgement
  is : o ≡ Some judgement
  alone : judgement ∷ [] ≡ js

first-of : (o : Option Judgement) (js : List Judgement) → option_map (λ J. J ∷ []) o ≡ Some js → First o js
first-of None js e = absurd (cc e)
first-of (Some J) js e = record { judgement = J; is = refl; alone = cc }

pub entry-derives : (earlier : List Statement) (name : RuleName) (l : Label) (ss : List Source) (rows : List Row) (last : ℕ) → IsEntry earlier name l ss rows last → (xs : List Thing) (premises : List Judgement) (K : Judgement) → IsInstance name xs premises K → All (ShiftIsAtMost greatest_part_shift) xs → DerivesBehind earlier l ss rows last xs premises K
entry-derives earlier name l ss rows last entry xs premises K instance shifts =
    let s = entry.statement in
    let kinds = rule_kinds name xs (subst IsSome (sym instance.is) refl) in
    let at = entry-at name l ss s xs kinds entry.is instance.rule instance.is in
    let may : MayStandAt s xs = record { kinds = at.kinds; shifts = shifts; sides = subst (All SideHolds) (sym at.sides) instance.sides } in
    let first = first-of (behind l instance.rule.gives) _ at.gives in
    record {
      named = premises_at s xs;
      sources_are = ap (λ js. sources js ss) instance.wants ∙ at.wants;
      judgement = first.judgement;
      stands = ap (behind l) instance.gives ∙ first.is;
      runs = subst (λ js. RunsTo earlier xs (premises_at s xs) rows (last ∷ []) js) (sym first.alone) (entry.derives.derives xs may);
    }
