use Rattle.std.proofs.Common.{drop}
use Rattle.book.specs.Shown.{book_means, book_concludes, Extends}
use Rattle.trails.specs.Stations.{Station}
use Rattle.trails.specs.Trails.{Conclusions}
use Rattle.trails.specs.Rows.{Stands, Widens}
use Rattle.trails.proofs.TrailLaws.{FollowedTo}
use Rattle.trails.proofs.follow.is_trail.Given as goal

abbrev pub invariant-loop-link : goal.invariant-loop-link
invariant-loop-link l = record {
  extends : Extends l.fn.book l.book;
  followed : (s : Station) → Stands (book_means l.fn.book) l.initial.station s → (C : Conclusions) → Widens (book_concludes l.book) C → FollowedTo (book_means l.book) C l.links (drop l.link-index l.links) l.station s;
}
