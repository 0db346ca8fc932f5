use Rattle.std.proofs.Common.{◌∙◌, List, ℕ, [], ◌∷◌, length, sym, ap, subst, arith, length-append}
use Rattle.book.specs.Shown.{book_means}
use Rattle.book_writer.specs.Means.{ArePlaced}
use Rattle.book_writer.specs.Needed.{among}
use Rattle.book_writer.proofs.PlaceLaws.{placed-none, placed-more}
use Rattle.book_writer.proofs.copies.add_rows.Goals as goal

pub add_needed-requires-clause-there : goal.add_needed-requires-clause-there
add_needed-requires-clause-there c = (c.mark-row-end.ensures.rows c.loop-row.row).1 (omega arith)

pub add_needed-requires-clause-count : goal.add_needed-requires-clause-count
add_needed-requires-clause-count c = c.requires.count c.loop-row.row ((c.mark-row-end.ensures.rows c.loop-row.row).1 (omega arith))

pub loop-row-preserved : goal.loop-row-preserved
loop-row-preserved c =
    let f = among c.args.needed.now (book_means c.args.book.now) in
    let l = c.loop-row in
    let more = placed-more f l.lines c.add_needed.new.lines l.places.items c.in_ok-place.place l.invariant.0 c.add_needed.ensures.kept (λ x e. c.in_ok-place.ensures.meaning x (ap f (sym l.invariant.1) ∙ e)) in (
      subst (λ (ps : List ℕ). ArePlaced f c.add_needed.new.lines ps) (sym c.in_ok-push.ensures.items) more,
      omega (arith, ap length c.in_ok-push.ensures.items, length-append l.places.items (c.in_ok-place.place ∷ [])),
    )

pub returns-clause-all : goal.returns-clause-all
returns-clause-all c = λ k some. let low = (c.mark-row-end.ensures.rows k).0 some in omega arith

pub add_needed-requires-clause-next : goal.add_needed-requires-clause-next
add_needed-requires-clause-next c = omega (arith, ap length c.deref.ensures.value, c.loop-row.invariant.1)

pub add_needed-requires-clause-placed : goal.add_needed-requires-clause-placed
add_needed-requires-clause-placed c = rw c.deref.ensures.value c.loop-row.invariant.0

pub loop-row-init : goal.loop-row-init
loop-row-init c =
    let f = among c.args.needed.now (book_means c.args.book.now) in (
      subst (λ (ps : List ℕ). ArePlaced f c.args.lines.now ps) (sym c.new-places.ensures.items) (placed-none f c.args.lines.now),
      ap length c.new-places.ensures.items,
    )
