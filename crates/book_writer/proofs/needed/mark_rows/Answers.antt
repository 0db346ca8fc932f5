use Rattle.std.proofs.Common.{◌≡◌, ◌-◌, ◌<◌, suc, length, refl, arith}
use Rattle.std.proofs.lemmas.List.Elements.{All-weaker}
use Rattle.interned.specs.Names.{row_names}
use Rattle.book_writer.proofs.NeededLaws.{rows-start, rows-on, rows-skip, rows-end, unmarked}
use Rattle.book_writer.proofs.needed.mark_rows.Goals as goal

pub loop-left-init : goal.loop-left-init
loop-left-init c = rows-start c.args.book.now c.args.rows.now (length c.args.rows.now) refl

pub bounds-rows-left : goal.bounds-rows-left
bounds-rows-left c = omega (arith, c.loop-left-test.true, c.loop-left.invariant.few, c.loop-left.invariant.count)

pub row-requires : goal.row-requires
row-requires c = (c.requires (c.loop-left.left - 1)).1 (omega (arith, c.loop-left-test.true, c.loop-left.invariant.few))

pub mark_names-requires : goal.mark_names-requires
mark_names-requires c =
    All-weaker (λ k. k < c.loop-left.left - 1) (λ k. k < length c.loop-left.rows) (λ k low. omega (arith, low, c.loop-left-test.true, c.loop-left.invariant.few, c.loop-left.invariant.count)) (row_names c.row.result) c.row.ensures.earlier

pub loop-left-preserved-then-rows-left : goal.loop-left-preserved-then-rows-left
loop-left-preserved-then-rows-left c =
    let l = c.loop-left in
    let more : l.left ≡ suc (l.left - 1) = omega (arith, c.loop-left-test.true) in
    rows-on c.args.book.now c.args.rows.now l.left (l.left - 1) l.rows c.mark_names.new.marks c.row.result more c.row.ensures.over c.row.ensures.meaning c.row.ensures.earlier c.mark_names.ensures l.invariant

pub loop-left-preserved : goal.loop-left-preserved
loop-left-preserved c =
    let l = c.loop-left in
    let more : l.left ≡ suc (l.left - 1) = omega (arith, c.loop-left-test.true) in
    rows-skip c.args.book.now c.args.rows.now l.left (l.left - 1) l.rows more (unmarked l.rows (l.left - 1) (omega (arith, c.loop-left-test.true, l.invariant.few, l.invariant.count)) c.if-rows-left.false) l.invariant

pub returns-clause-stand : goal.returns-clause-stand
returns-clause-stand c = rows-end c.args.book.now c.args.rows.now c.loop-left.left c.loop-left.rows (omega (arith, c.loop-left-test.false)) c.loop-left.invariant
