use Rattle.std.proofs.Common.{◌≡◌, Some}
use Rattle.trees.specs.Trees.{Tree}
use Rattle.trees.specs.Things.{ATree}
use Rattle.book.specs.Shown.{book_means, Extends}
use Rattle.trails.specs.Trails.{behind, HasBehind}
use Rattle.trails.proofs.kids.behind.Given as goal

abbrev pub invariant-loop-n : goal.invariant-loop-n
invariant-loop-n l = record {
  extends : Extends l.fn.book l.book;
  has : (t : Tree) → book_means l.fn.book l.tree ≡ Some (ATree t) → HasBehind l.op l.place l.n t;
  is : (t : Tree) → book_means l.fn.book l.tree ≡ Some (ATree t) → book_means l.book l.row ≡ Some (ATree (behind l.place l.n t));
}
