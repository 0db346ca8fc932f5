use Rattle.std.proofs.Common.{◌≡◌, Some}
use Rattle.trees.specs.Trees.{Subst}
use Rattle.trees.specs.Judgements.{trees}
use Rattle.trees.specs.Things.{ASubst}
use Rattle.substitution.specs.Forms.{lift_by}
use Rattle.book.specs.Shown.{book_means, Extends}
use Rattle.trails.proofs.open.lifted.Given as goal

abbrev pub invariant-loop-n : goal.invariant-loop-n
invariant-loop-n l = record {
  extends : Extends l.fn.book l.book;
  means : (d : Subst) → book_means l.fn.book l.fn.sub ≡ Some (ASubst d) → book_means l.book l.row ≡ Some (ASubst (lift_by trees l.n d));
}
