-- When a rule applies.
use Rattle.std.specs.Prelude.{◌≡◌, List, Some}
use Rattle.std.specs.List.{All}
use Rattle.theory.specs.declared.rule.RuleName.{RuleName}
use Rattle.trees.specs.Judgements.{Judgement, TreeRule}
use Rattle.trees.specs.Things.{Thing}
use Rattle.rules.specs.Rules.{rule_at}
use Rattle.conditions.specs.Sides.{SideHolds}

-- The table's rule at these parts wants these premises in order, has side conditions that hold, and
-- gives J.
pub record IsInstance (name : RuleName) (parts : List Thing)
    (premises : List Judgement) (J : Judgement) : Type 0 where
  pub rule : TreeRule
  pub is : rule_at name parts ≡ Some rule
  pub wants : premises ≡ rule.wants
  pub sides : All SideHolds rule.sides
  pub gives : J ≡ rule.gives
