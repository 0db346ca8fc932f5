use Rattle.std.proofs.Common.{◌^◌, arith}
use Rattle.book.specs.Shown.{book_means}
use Rattle.book_shifts.proofs.SizeLaws.{context_size}
use Rattle.book_shifts.proofs.SourceLaws.{source_row}
use Rattle.book_shifts.proofs.laws_of_shifts.Goals as goal

pub returns-clause-sizes : goal.returns-clause-sizes
returns-clause-sizes c = λ k G e.
    context_size c.args.book.now.rows c.laws_of_book.ensures.rows (2 ^ 48) k G c.few_rows.ensures e

pub returns-clause-shifts : goal.returns-clause-shifts
returns-clause-shifts c = λ k H d G e.
    let b = c.args.book.now in
    let spans = c.substitutions_span_contexts.ensures H d G (c.laws_of_nodes.ensures k _ e) in
    let source = source_row (book_means b) b.nodes k H d G e in
    let size = context_size b.rows c.laws_of_book.ensures.rows (2 ^ 48) source.0 H c.few_rows.ensures source.1 in
    let within = spans.within in
    omega (arith, size, within)
