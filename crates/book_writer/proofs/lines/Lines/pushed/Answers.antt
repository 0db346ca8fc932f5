use Rattle.std.proofs.Common.{List, ℕ, sym, subst}
use Rattle.book_writer.specs.Means.{lines_mean}
use Rattle.book_writer.proofs.PushLaws.{Walk, walk-on, walk-end}
use Rattle.book_writer.proofs.lines.Lines.pushed.Goals as goal

pub sub_line-requires : goal.sub_line-requires
sub_line-requires c = let w = c.loop-shift.invariant c.requires.0 c.requires.1 in (w.rest, w.is)

pub returns-in-Shift : goal.returns-in-Shift
returns-in-Shift c = λ d e.
    let w = c.loop-shift.invariant d e in
    walk-end (lines_mean c.args.self.now) c.loop-shift.trees.items c.loop-shift.at c.in-Shift.shift d w (c.in-Shift.ensures w.rest w.is)

pub loop-shift-smaller : goal.loop-shift-smaller
loop-shift-smaller c = let w = c.loop-shift.invariant c.requires.0 c.requires.1 in (c.in-Push.ensures w.rest w.is).earlier

pub loop-shift-preserved : goal.loop-shift-preserved
loop-shift-preserved c = λ d e.
    let w = c.loop-shift.invariant d e in
    let rows = c.args.self.now in
    subst (λ (ks : List ℕ). Walk (lines_mean rows) ks c.in-Push.sub d) (sym c.in_ok-push-in-Push.ensures.items) (walk-on rows c.loop-shift.trees.items c.loop-shift.at c.in-Push.sub c.in-Push.tree d w (c.in-Push.ensures w.rest w.is))
