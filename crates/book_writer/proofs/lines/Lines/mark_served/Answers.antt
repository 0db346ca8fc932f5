use Rattle.std.proofs.Common.{◌≡◌, ◌∙◌, ◌-◌, suc, Some, true, false, length, sym, ap, subst, arith}
use Rattle.std.proofs.lemmas.Option.{slice_get-get_or}
use Rattle.book_writer.specs.Means.{IsFile}
use Rattle.book_writer.proofs.NumberLaws.{line-names}
use Rattle.book_writer.proofs.MarksLaws.{Marking, marking-start, marking-line, marking-skip, marking-end}
use Rattle.book_writer.proofs.lines.Lines.mark_served.Goals as goal

pub loop-left-init : goal.loop-left-init
loop-left-init c =
    let rows = c.args.self.now in
    subst (λ n. Marking rows c.args.roots.now n c.mark_all-2.new.marks) (sym c.len-left.ensures)
    (marking-start rows c.args.roots.now c.args.marks.now c.mark_all.new.marks c.mark_all-2.new.marks c.requires.clear c.mark_all.ensures c.mark_all-2.ensures)

pub returns : goal.returns
returns c = marking-end c.args.self.now c.args.roots.now c.loop-left.left c.loop-left.marks (omega (arith, c.loop-left-test.false)) c.loop-left.invariant

pub mark_all-requires-then-marks-left : goal.mark_all-requires-then-marks-left
mark_all-requires-then-marks-left c =
    let rows = c.args.self.now in
    let line = c.line.result in
    line-names rows (subst IsFile c.self.view_is c.self.invariant.1) (c.loop-left.left - 1) line.0 line.1.now c.line.ensures.row c.line.ensures.count (length c.loop-left.marks) (omega (arith, c.loop-left-test.true, c.loop-left.invariant.few, c.loop-left.invariant.count))

pub loop-left-preserved-then-marks-left : goal.loop-left-preserved-then-marks-left
loop-left-preserved-then-marks-left c =
    let rows = c.args.self.now in
    let line = c.line.result in
    let l = c.loop-left in
    let left = l.left in
    let more : left ≡ suc (left - 1) = omega (arith, c.loop-left-test.true) in
    let mark = slice_get-get_or l.marks (left - 1) false (omega (arith, c.loop-left-test.true, l.invariant.few, l.invariant.count)) in
    marking-line rows (subst IsFile c.self.view_is c.self.invariant.1) c.args.roots.now left (left - 1) l.marks c.mark_all-then-marks-left.new.marks line.0 line.1.now more c.line.ensures.row c.line.ensures.count (mark ∙ ap Some c.if-marks-left.true) c.mark_all-then-marks-left.ensures l.invariant

pub loop-left-preserved : goal.loop-left-preserved
loop-left-preserved c =
    let l = c.loop-left in
    let left = l.left in
    let more : left ≡ suc (left - 1) = omega (arith, c.loop-left-test.true) in
    let mark = slice_get-get_or l.marks (left - 1) false (omega (arith, c.loop-left-test.true, l.invariant.few, l.invariant.count)) in
    marking-skip c.args.self.now c.args.roots.now left (left - 1) l.marks more (λ is. let not : Some true ≡ Some false = sym is ∙ mark ∙ ap Some c.if-marks-left.false in cc) l.invariant
