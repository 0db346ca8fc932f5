-- What a rule at given parts wants, asks and gives.
use Rattle.std.specs.Prelude.{ℕ, List, Option, Some, None}
use Rattle.std.specs.Prelude.{slice_get, length, option_and_then}
use Rattle.theory.specs.declared.rule.RuleName.{RuleName}
use Rattle.trees.specs.Judgements.{Judgement, SideCondition, TreeRule}
use Rattle.trees.specs.Things.{Thing}
use Rattle.rules.specs.Rules.{rule_at}

-- the table's rule over these parts
abbrev pub rule_over : RuleName → Option (List Thing) → Option TreeRule
rule_over name = option_and_then (rule_at name)

abbrev pub premise_at : ℕ → Option TreeRule → Option Judgement
premise_at k = option_and_then (λ r. slice_get r.wants k)

abbrev pub side_at : ℕ → Option TreeRule → Option SideCondition
side_at k = option_and_then (λ r. slice_get r.sides k)

abbrev pub sides_in : Option TreeRule → ℕ
sides_in None = 0
sides_in (Some r) = length r.sides

abbrev pub conclusion_of : Option TreeRule → Option Judgement
conclusion_of = option_and_then (λ r. Some r.gives)
