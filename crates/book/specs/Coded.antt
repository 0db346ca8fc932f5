-- Nodes that are read from words, and the words that are made of nodes.
use Rattle.std.specs.Prelude.{◌≡◌, ◌≤◌, ◌+◌, ℕ, List, length, Some}
use Rattle.theory.specs.declared.rule.RuleName.{RuleName}
use Rattle.theory.specs.RuleNames.{kinds_of}
use Rattle.trees.specs.declared.claim.Claim.{Claim}
use Rattle.trees.specs.Claims.{form_of, rows_of}
use Rattle.book.specs.Nodes.{Node, node_coded, places_of}
use Rattle.book.specs.declared.node_words.NodeCells.{NodeCells}

abbrev pub node_from : RuleName → Claim → List ℕ → List ℕ → Node
node_from rule claim parts premises = record {
  rule = rule;
  form = form_of claim;
  claimed = rows_of claim;
  parts = parts;
  premises = premises;
}

abbrev pub node_shown : NodeCells → Node
node_shown c = record {
  rule = c.rule;
  form = c.form;
  claimed = c.claimed.now;
  parts = c.parts.now;
  premises = c.premises.now;
}

-- the words say a node, and have all rows of its conclusion and all parts
pub record IsWhole (words : List ℕ) : Type 0 where
  pub node : Node
  pub is : node_coded words ≡ Some node
  pub claimed_count : length node.claimed ≡ places_of node.form
  pub enough : 2 + places_of node.form + length (kinds_of node.rule) ≤ length words
