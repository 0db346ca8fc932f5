use Rattle.std.proofs.Common.{◌≡◌, ◌<◌, ℕ, length}
use Rattle.std.specs.Prelude.{slice_get}
use Rattle.trees.specs.Trees.{Tree, Subst, apply_kids}
use Rattle.substitution.specs.Delayed.{kid_at}
use Rattle.book.specs.Shown.{book_means, Extends}
use Rattle.trails.specs.Openings.{IsOver, IsSubstOr, RowAt}
use Rattle.trails.proofs.open.operator.Given as goal

abbrev pub invariant-loop-at : goal.invariant-loop-at
invariant-loop-at l = record {
  extends : Extends l.fn.book l.book;
  count : length l.rows.items ≡ l.at;
  so_far : (t : Tree) (d : Subst) (o : IsOver (book_means l.fn.book) l.op l.kids t) → IsSubstOr (book_means l.fn.book) l.sub d → (k : ℕ) → k < l.at → RowAt (book_means l.book) (slice_get l.rows.items k) (kid_at (apply_kids o.kids l.op 0 0 d) k);
}
