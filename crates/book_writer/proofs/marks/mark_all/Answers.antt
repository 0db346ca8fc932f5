use Rattle.book_writer.proofs.MarksLaws.{marks-none, marks-more, marks-all}
use Rattle.book_writer.proofs.marks.mark_all.Goals as goal

pub loop-row-init : goal.loop-row-init
loop-row-init c = marks-none c.args.marks.now c.args.rows.now

pub loop-row-preserved : goal.loop-row-preserved
loop-row-preserved c =
    marks-more c.args.marks.now c.args.rows.now c.loop-row.marks c.loop-row.row-index c.loop-row.invariant c.loop-row-test.true (c.requires c.loop-row.row-index 0 c.loop-row-test.true)

pub returns : goal.returns
returns c = marks-all c.args.marks.now c.args.rows.now c.loop-row.marks c.loop-row.row-index c.loop-row.invariant c.loop-row-test.false
