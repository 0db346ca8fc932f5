use Rattle.std.proofs.Common.{◌≡◌, Some}
use Rattle.trees.specs.Trees.{Subst}
use Rattle.trees.specs.Things.{ASubst}
use Rattle.book_writer.specs.Means.{lines_mean}
use Rattle.book_writer.proofs.PushLaws.{Passed}
use Rattle.book_writer.proofs.lines.Lines.without.Given as goal

abbrev pub invariant-loop-left : goal.invariant-loop-left
invariant-loop-left l =
    (l.self ≡ l.fn.self) ×
    ((d : Subst) → lines_mean l.fn.self l.sub ≡ Some (ASubst d) → Passed (lines_mean l.self) l.at l.left d l.count)

abbrev pub decreases-loop-left : goal.decreases-loop-left
decreases-loop-left l = l.left
