-- What some nodes of a book stand on.
use Rattle.std.specs.Prelude.{◌≡◌, ◌<◌, ◌≤◌, ◌↔◌, ℕ, List, length, Bool, true, false}
use Rattle.std.specs.Prelude.{Option, Some, None, IsSome, slice_get}
use Rattle.std.specs.List.{All}
use Rattle.trees.specs.Things.{Thing}
use Rattle.book.specs.Contents.{Contents}
use Rattle.book.specs.Nodes.{Node}
use Rattle.book.specs.Shown.{book_means, book_nodes, book_concludes, row_over}
use Rattle.book_writer.specs.Served.{IsMarked}

-- what a row means, or a node concludes, where it is marked

abbrev pub where_marked : {A : Type 0} → Option Bool → Option A → Option A
where_marked (Some true) x = x
where_marked (Some false) x = None
where_marked None x = None

abbrev pub among : {A : Type 0} → List Bool → (ℕ → Option A) → ℕ → Option A
among marks f k = where_marked (slice_get marks k) (f k)

-- there is a mark for each row and for each node
pub record AreCounted (b : Contents) (rows nodes : List Bool) : Type 0 where
  pub rows_are : (k : ℕ) → IsSome (book_means b k) ↔ (k < length rows)
  pub nodes_are : (k : ℕ) → IsSome (book_concludes b k) ↔ (k < length nodes)

-- the marked rows from n on mean what they do by marked rows alone
pub record RowsStand (b : Contents) (rows : List Bool) (n : ℕ) : Type 0 where
  pub each : (k : ℕ) (x : Thing) → n ≤ k → IsMarked rows k → book_means b k ≡ Some x
      → row_over b k (among rows (book_means b)) ≡ Some x

-- the parts and premises of the marked nodes from n on are marked
pub record NodesStand (b : Contents) (rows nodes : List Bool) (n : ℕ) : Type 0 where
  pub parts : (k : ℕ) (node : Node) → n ≤ k → IsMarked nodes k → book_nodes b k ≡ Some node
      → All (IsMarked rows) node.parts
  pub premises : (k : ℕ) (node : Node) → n ≤ k → IsMarked nodes k → book_nodes b k ≡ Some node
      → All (IsMarked nodes) node.premises

-- marked are these nodes and what they stand on
pub record AreNeeded (b : Contents) (roots : List ℕ) (rows nodes : List Bool) : Type 0 where
  pub counted : AreCounted b rows nodes
  pub roots_marked : All (IsMarked nodes) roots
  pub rows_stand : RowsStand b rows 0
  pub nodes_stand : NodesStand b rows nodes 0
