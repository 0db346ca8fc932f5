use Rattle.std.proofs.Common.{◌+◌, ◌∙◌, List, ℕ, false, get_or, sym, subst, arith}
use Rattle.std.proofs.lemmas.Option.{slice_get-get_or}
use Rattle.book_writer.proofs.NumberLaws.{number-most, Counted, counted-none, counted-more}
use Rattle.book_writer.proofs.numbering.numbers.Goals.{then-marked, else-marked}
use Rattle.book_writer.proofs.numbering.numbers.Goals as goal

pub overflow_add-count : goal.overflow_add-count
overflow_add-count c = omega (arith, number-most c.args.marks.now c.loop-marked.marked-index, c.loop-marked.invariant.count_is)

pub loop-marked-preserved : goal.loop-marked-preserved
loop-marked-preserved c =
    let l = c.loop-marked in
    let marks = c.args.marks.now in
    let m = get_or marks l.marked-index false in
    subst (λ (ks : List ℕ). Counted marks (l.marked-index + 1) ks c.if-marked.count) (sym c.in_ok-push.ensures.items)
    (counted-more marks l.marked-index l.of.items l.count c.if-marked.count m l.invariant (slice_get-get_or marks l.marked-index false c.loop-marked-test.true)
    (elim c.if-marked.branch [ then-marked w ↦ rw w.if-marked.true (w.count-is ∙ omega arith) | else-marked w ↦ rw w.if-marked.false w.count-is ]))

pub loop-marked-init : goal.loop-marked-init
loop-marked-init c = subst (λ (ks : List ℕ). Counted c.args.marks.now 0 ks 0) (sym c.new-of.ensures.items) (counted-none c.args.marks.now)
