-- What is provable by the rules, and what derivation files derive.
use Rattle.std.specs.Prelude.{ℕ, List, Contains}
use Rattle.theory.specs.declared.rule.RuleName.{RuleName}
use Rattle.trees.specs.Judgements.{Judgement}
use Rattle.trees.specs.Things.{Thing}
use Rattle.rules.specs.Instances.{IsInstance}
use Rattle.derivation.specs.Right.{AllRight, Derives}

-- By some rule, at some parts, premises that all are provable give the judgement. No file is asked
-- for, so trees and contexts may be of any size.
pub data Provable : Judgement → Type 0 where
  by_rule : (rule : RuleName) (parts : List Thing) (premises : List Judgement) (J : Judgement) →
      IsInstance rule parts premises J →
      ((K : Judgement) → Contains premises K → Provable K) → Provable J

-- some file is right and has the judgement among its roots
pub record Derivable (J : Judgement) : Type 0 where
  pub file : List ℕ
  pub rows : ℕ
  pub roots : List Judgement
  pub right : AllRight file
  pub derives : Derives file rows roots
  pub among : Contains roots J
