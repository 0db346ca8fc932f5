use Rattle.std.proofs.Common.{◌≡◌, Some}
use Rattle.trees.specs.Judgements.{Context}
use Rattle.trees.specs.Things.{AContext}
use Rattle.book.specs.Shown.{book_means, Extends}
use Rattle.trails.proofs.ContextLaws.{ComparedTo}
use Rattle.trails.proofs.contexts.are_alike.Given as goal

abbrev pub invariant-loop-turn : goal.invariant-loop-turn
invariant-loop-turn l = record {
  extends : Extends l.fn.book l.book;
  compared : (G H : Context) → book_means l.fn.book l.left ≡ Some (AContext G) → book_means l.fn.book l.right ≡ Some (AContext H) → ComparedTo (book_means l.book) l.here l.there G H;
}
