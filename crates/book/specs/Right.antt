-- When a rule may be used, and when the nodes of a book are right.
use Rattle.std.specs.Prelude.{◌≡◌, ◌<◌, ℕ, List, Option, Some, slice_get, length}
use Rattle.std.specs.List.{All}
use Rattle.theory.specs.declared.rule.RuleName.{RuleName}
use Rattle.trees.specs.Judgements.{Judgement}
use Rattle.trees.specs.Things.{Thing, Meanings, meanings}
use Rattle.rules.specs.Instances.{IsInstance}
use Rattle.side_conditions.specs.declared.deciding.SideConditions.{SideConditions}
use Rattle.side_conditions.specs.Kept.{KeepsBelow}
use Rattle.book.specs.Nodes.{Node, node_coded, judgement_of, concluded}

-- The rule at these parts, which are rows, and premises, which are nodes, gives J: what they mean
-- and conclude is an instance.
pub record IsUse (means : Meanings) (concludes : ℕ → Option Judgement)
    (rule : RuleName) (parts premises : List ℕ) (J : Judgement) : Type 0 where
  pub things : List Thing
  pub judgements : List Judgement
  pub parts_are : meanings means parts ≡ Some things
  pub premises_are : meanings concludes premises ≡ Some judgements
  pub instance : IsInstance rule things judgements J

-- the node is made by that use
pub record IsMadeBy (rule : RuleName) (parts premises : List ℕ) (made : Option Node) : Type 0 where
  pub node : Node
  pub is : made ≡ Some node
  pub rule_is : node.rule ≡ rule
  pub parts_are : node.parts ≡ parts
  pub premises_are : node.premises ≡ premises

-- the words of node k say a node that is an instance of its rule over earlier nodes
pub record IsRight (means : Meanings) (nodes : List (List ℕ)) (k : ℕ)
    (words : List ℕ) : Type 0 where
  pub node : Node
  pub is : node_coded words ≡ Some node
  pub judgement : Judgement
  pub concludes : judgement_of means node ≡ Some judgement
  pub use_is : IsUse means (concluded means nodes) node.rule node.parts node.premises judgement
  pub earlier : All (λ j. j < k) node.premises

pub record AreRight (means : Meanings) (nodes : List (List ℕ)) : Type 0 where
  pub each : (k : ℕ) (words : List ℕ) → slice_get nodes k ≡ Some words → IsRight means nodes k words

-- the nodes are right, and what is kept of contexts is so
pub record IsSound (xs : List Thing) (nodes : List (List ℕ)) (sides : SideConditions) : Type 0 where
  pub right : AreRight (slice_get xs) nodes
  pub keeps : KeepsBelow (length xs) (slice_get xs) sides
