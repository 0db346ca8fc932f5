use Rattle.std.proofs.Common.{◌≡◌, Some}
use Rattle.trees.specs.Trees.{Tree}
use Rattle.trees.specs.Things.{ATree}
use Rattle.book.specs.Shown.{book_means, Extends}
use Rattle.trails.specs.Openings.{IsHere}
use Rattle.trails.proofs.open.open_tree.Given as goal

abbrev pub invariant-loop-turn : goal.invariant-loop-turn
invariant-loop-turn l = record {
  extends : Extends l.fn.book l.book;
  here : (t : Tree) → book_means l.fn.book l.tree ≡ Some (ATree t) → IsHere (book_means l.book) l.here t;
}
