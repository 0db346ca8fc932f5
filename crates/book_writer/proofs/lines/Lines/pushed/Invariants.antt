use Rattle.std.proofs.Common.{◌≡◌, Some}
use Rattle.trees.specs.Trees.{Subst}
use Rattle.trees.specs.Things.{ASubst}
use Rattle.book_writer.specs.Means.{lines_mean}
use Rattle.book_writer.proofs.PushLaws.{Walk}
use Rattle.book_writer.proofs.lines.Lines.pushed.Given as goal

abbrev pub invariant-loop-shift : goal.invariant-loop-shift
invariant-loop-shift l = (d : Subst) → lines_mean l.self l.sub ≡ Some (ASubst d) → Walk (lines_mean l.self) l.trees.items l.at d

abbrev pub decreases-loop-shift : goal.decreases-loop-shift
decreases-loop-shift l = l.at
