-- What contracts see of a book.
use Rattle.std.specs.Prelude.{◌≡◌, ◌<◌, ◌≤◌, ℕ, length, Option, Some, None, IsSome, slice_get}
use Rattle.std.specs.Prelude.{option_and_then}
use Rattle.std.specs.List.{All}
use Rattle.trees.specs.Judgements.{Judgement}
use Rattle.trees.specs.Things.{Thing, Meanings, Kept}
use Rattle.interned.specs.Coding.{thing_coded}
use Rattle.interned.specs.Coded.{things_coded}
use Rattle.book.specs.Nodes.{Node, node_at, concluded}
use Rattle.book.specs.Contents.{Contents}
use Rattle.book.specs.declared.kernel.Mark.{Mark}

-- what each row means
abbrev pub book_means : Contents → Meanings
book_means b = slice_get (things_coded b.rows)

-- what a row means, where the rows that it names mean these things
abbrev pub row_over : Contents → ℕ → Meanings → Option Thing
row_over b k f = option_and_then (thing_coded f) (slice_get b.rows k)

-- the nodes as they were made
abbrev pub book_nodes : Contents → ℕ → Option Node
book_nodes b = node_at b.nodes

-- what each node concludes
abbrev pub book_concludes : Contents → ℕ → Option Judgement
book_concludes b = concluded (slice_get (things_coded b.rows)) b.nodes

-- the rows that a node names are below that number
pub record NamesBelow (rows : ℕ) (node : Node) : Type 0 where
  pub claimed : All (λ row. row < rows) node.claimed
  pub parts : All (λ row. row < rows) node.parts

-- so many of the first rows and of the first nodes, which name no others
pub record IsMark (b : Contents) (mark : Mark) : Type 0 where
  pub rows_there : mark.rows ≤ length b.rows
  pub nodes_there : mark.nodes ≤ length b.nodes
  pub within : (k : ℕ) (node : Node) → k < mark.nodes → book_nodes b k ≡ Some node
      → NamesBelow mark.rows node

-- old rows and nodes stay what they are, and marks stay marks
pub record Extends (old new : Contents) : Type 0 where
  pub rows : Kept (book_means old) (book_means new)
  pub nodes : (k : ℕ) (node : Node) → book_nodes old k ≡ Some node → book_nodes new k ≡ Some node
  pub conclusions : (k : ℕ) (J : Judgement) → book_concludes old k ≡ Some J
      → book_concludes new k ≡ Some J
  pub marks : (mark : Mark) → IsMark old mark → IsMark new mark

-- old rows and nodes stay what they are, and there is no new node
pub record AddsRows (old new : Contents) : Type 0 where
  pub extends : Extends old new
  pub nodes : (k : ℕ) → IsSome (book_concludes new k) → IsSome (book_concludes old k)

-- the rows and nodes of the mark are what they were, and there are no others
pub record Released (old new : Contents) (mark : Mark) : Type 0 where
  pub rows : (k : ℕ) → k < mark.rows → book_means new k ≡ book_means old k
  pub no_rows : (k : ℕ) → mark.rows ≤ k → book_means new k ≡ None
  pub nodes : (k : ℕ) → k < mark.nodes → book_nodes new k ≡ book_nodes old k
  pub no_nodes : (k : ℕ) → mark.nodes ≤ k → book_nodes new k ≡ None
  pub conclusions : (k : ℕ) → k < mark.nodes → book_concludes new k ≡ book_concludes old k
  pub marks : (other : Mark) → IsMark old other
      → other.rows ≤ mark.rows → other.nodes ≤ mark.nodes → IsMark new other
