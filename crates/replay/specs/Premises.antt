-- The rule of a node whose parts are rows of a store.
use Rattle.std.specs.Prelude.{ℕ, List, Option, slice_get}
use Rattle.theory.specs.declared.rule.RuleName.{RuleName}
use Rattle.trees.specs.Judgements.{TreeRule}
use Rattle.trees.specs.Things.{Thing, meanings}
use Rattle.rules.specs.Claims.{rule_over}

abbrev pub rule_at_rows : List Thing → RuleName → List ℕ → Option TreeRule
rule_at_rows xs rule rows = rule_over rule (meanings (slice_get xs) rows)
