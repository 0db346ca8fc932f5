use Rattle.std.proofs.Common.{rules}
use Rattle.replay.specs.Meant.{meant_by}
use Rattle.replay.proofs.FileLaws.{next_stands, next_right, next_shorter, next_wrong, next_misspelt, end_empty, end_some}
use Rattle.replay.proofs.judging.judge_rows.Goals as goal

pub returns-in-BadSpelling : goal.returns-in-BadSpelling
returns-in-BadSpelling c = next_misspelt c.args.bytes.now c.loop-row.reader c.next.new.self (meant_by c.loop-row.rows.judge) c.loop-row.rows.roots.items c.in-BadSpelling.row c.loop-row.invariant.progress (rw c.in-BadSpelling.is at c.in_ok-row.ensures.next)

pub judge_row-requires-clause-stands : goal.judge_row-requires-clause-stands
judge_row-requires-clause-stands c = next_stands c.args.bytes.now c.loop-row.reader c.next.new.self (meant_by c.loop-row.rows.judge) c.loop-row.rows.roots.items c.in-Row.row c.loop-row.invariant.progress (rw c.in-Row.is at c.in_ok-row.ensures.next)

pub returns-then-not-right : goal.returns-then-not-right
returns-then-not-right c = next_wrong c.args.bytes.now c.loop-row.reader c.next.new.self (meant_by c.loop-row.rows.judge) c.loop-row.rows.roots.items c.len-row.result c.in-Row.row c.loop-row.invariant.progress (rw c.in-Row.is at c.in_ok-row.ensures.next) (meant_by c.judge_row.new.self.judge) (c.in_ok-right.ensures.wrong c.if-not-right.true) c.len-row.ensures

pub loop-row-smaller-else-not-right : goal.loop-row-smaller-else-not-right
loop-row-smaller-else-not-right c = next_shorter c.loop-row.reader c.next.new.self c.in-Row.row (rw c.in-Row.is at c.in_ok-row.ensures.next)

pub loop-row-preserved-else-not-right : goal.loop-row-preserved-else-not-right
loop-row-preserved-else-not-right c = record {
  progress = next_right c.args.bytes.now c.loop-row.reader c.next.new.self (meant_by c.loop-row.rows.judge) (meant_by c.judge_row.new.self.judge) c.loop-row.rows.roots.items c.judge_row.new.self.roots.items c.in-Row.row c.loop-row.invariant.progress (rw c.in-Row.is at c.in_ok-row.ensures.next) (c.in_ok-right.ensures.right c.if-not-right.false) (c.in_ok-right.ensures.roots c.if-not-right.false);
  keeps = c.judge_row.ensures.keeps;
}

pub loop-row-smaller-else-not-right-2 : goal.loop-row-smaller-else-not-right-2
loop-row-smaller-else-not-right-2 c = next_shorter c.loop-row.reader c.next.new.self c.in-Row.row (rw c.in-Row.is at c.in_ok-row.ensures.next)

pub loop-row-preserved-else-not-right-2 : goal.loop-row-preserved-else-not-right-2
loop-row-preserved-else-not-right-2 c = record {
  progress = next_right c.args.bytes.now c.loop-row.reader c.next.new.self (meant_by c.loop-row.rows.judge) (meant_by c.judge_row.new.self.judge) c.loop-row.rows.roots.items c.judge_row.new.self.roots.items c.in-Row.row c.loop-row.invariant.progress (rw c.in-Row.is at c.in_ok-row.ensures.next) (c.in_ok-right.ensures.right c.if-not-right.false) (c.in_ok-right.ensures.roots c.if-not-right.false);
  keeps = c.judge_row.ensures.keeps;
}

pub loop-row-smaller : goal.loop-row-smaller
loop-row-smaller c = next_shorter c.loop-row.reader c.next.new.self c.in-Row.row (rw c.in-Row.is at c.in_ok-row.ensures.next)

pub loop-row-preserved : goal.loop-row-preserved
loop-row-preserved c = record {
  progress = next_right c.args.bytes.now c.loop-row.reader c.next.new.self (meant_by c.loop-row.rows.judge) (meant_by c.judge_row.new.self.judge) c.loop-row.rows.roots.items c.judge_row.new.self.roots.items c.in-Row.row c.loop-row.invariant.progress (rw c.in-Row.is at c.in_ok-row.ensures.next) (c.in_ok-right.ensures.right c.if-not-right.false) (c.in_ok-right.ensures.roots c.if-not-right.false);
  keeps = c.judge_row.ensures.keeps;
}

pub returns-in-0 : goal.returns-in-0
returns-in-0 c = end_empty c.args.bytes.now c.loop-row.reader c.next.new.self c.loop-row.rows c.len.result c.loop-row.invariant.progress (rw c.in-End.is at c.in_ok-row.ensures.next) c.len.ensures c.in-0.is

pub returns-in_default : goal.returns-in_default
returns-in_default c = end_some c.args.bytes.now c.loop-row.reader c.next.new.self c.loop-row.rows c.len.result c.root_count-roots.result c.loop-row.invariant.progress (rw c.in-End.is at c.in_ok-row.ensures.next) c.len.ensures (search rules) c.root_count-roots.ensures
