-- The side conditions of a node, and what is kept of the contexts that they are asked in.
use Rattle.std.specs.Prelude.{List, [], Option, Some, None, length}
use Rattle.trees.specs.Judgements.{SideCondition, TreeRule}
use Rattle.rows.specs.declared.store.RowStore.{RowStore}
use Rattle.rows.specs.Shown.{things, store_means}
use Rattle.side_conditions.specs.declared.deciding.SideConditions.{SideConditions}
use Rattle.side_conditions.specs.Kept.{KeepsBelow}

-- what is kept stands for a context of the store
abbrev pub Keeps : SideConditions → RowStore → Type 0
Keeps sides store = KeepsBelow (length (things store)) (store_means store) sides

-- the side conditions of a rule
abbrev pub sides_of : Option TreeRule → List SideCondition
sides_of None = []
sides_of (Some r) = r.sides
