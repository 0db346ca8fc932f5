-- What nodes type, and what their rules say of it.
use Rattle.std.specs.Prelude.{◌≡◌, ◌+◌, ◌^◌, ℕ, zero, true}
use Rattle.trees.specs.Trees.{Tree, Var, Subst, apply}
use Rattle.trees.specs.Judgements.{Context, Judgement}
use Rattle.trees.specs.Language.{Sb}
use Rattle.book.specs.Contents.{Contents}
use Rattle.book.specs.declared.kernel.NodeId.{NodeId}
use Rattle.typed_nodes.specs.Typed.{Says}
use Rattle.literal_types.specs.declared.openings.Opening.{Opening}
use Rattle.literal_types.specs.declared.openings.Opening.TheVariants as opening
use Rattle.literal_types.specs.Formed.{IsFormed}
use Rattle.literal_types.specs.Ways.{HasVariable, IsOf, has_other}

-- the node types that tree in that context, as a type or a term
pub record Types (b : Contents) (node : NodeId) (K : Context) (A : Tree) : Type 0 where
  pub judgement : Judgement
  pub says : Says b node judgement
  pub is_of : IsOf judgement K A

-- the tree of a node, by its rule
abbrev pub Opens : Contents → Opening → Context → Tree → Type 0
Opens b (opening.Same node) K A = Types b node K A
Opens b (opening.Instance sub node) K A =
    (d : Subst) × (G : Context) × (B : Tree) × Says b sub (Sb K d G) × Types b node G B
    × (A ≡ apply B d)
Opens b opening.Variable K A = (B : Tree) × (A ≡ Var zero) × HasVariable K zero B
Opens b (opening.Formed form) K A = IsFormed b form K A
Opens b opening.Other K A = has_other A ≡ true

-- A node weighs more than two earlier ones.
abbrev pub weight : NodeId → ℕ
weight node = 3 ^ node.0

-- what is to be opened next
abbrev pub opening_weight : Opening → ℕ
opening_weight (opening.Same node) = weight node
opening_weight (opening.Instance sub node) = weight sub + weight node
opening_weight opening.Variable = zero
opening_weight (opening.Formed form) = zero
opening_weight opening.Other = zero
