-- Typings that are converted to their own types.
use Rattle.std.specs.Prelude.{ℕ, List, [], ◌∷◌}
use Rattle.theory.specs.declared.rule.RuleName.TheVariants.{Equality}
use Rattle.theory.specs.declared.rule.EqualityRule.TheVariants.{TmConv, TyEqRefl}
use Rattle.book.specs.Contents.{Contents}
use Rattle.book.specs.Right.{IsMadeBy}
use Rattle.book.specs.Shown.{book_nodes}
use Rattle.book.specs.declared.kernel.NodeId.{NodeId}

-- the node is by tyeq.refl, of the type
abbrev pub IsReflexive : Contents → NodeId → NodeId → Type 0
IsReflexive b node ty =
    (parts : List ℕ) × IsMadeBy (Equality TyEqRefl) parts (ty.0 ∷ []) (book_nodes b node.0)

-- the node is by tm.conv, of the typing and tyeq.refl of the type
abbrev pub IsAnchor : Contents → NodeId → NodeId → NodeId → Type 0
IsAnchor b node typing ty =
    (parts : List ℕ) × (same : NodeId) × IsReflexive b same ty
    × IsMadeBy (Equality TmConv) parts (typing.0 ∷ same.0 ∷ []) (book_nodes b node.0)
