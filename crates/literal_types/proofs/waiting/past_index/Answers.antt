use Rattle.std.proofs.Common.{arith}
use Rattle.book.specs.Shown.{book_means}
use Rattle.book_shifts.proofs.SourceLaws.{source_row}
use Rattle.literal_types.proofs.WaitLaws.{variable_within}
use Rattle.literal_types.proofs.waiting.past_index.Goals as goal

pub overflow_add-result : goal.overflow_add-result
overflow_add-result c =
    let (K, A, from, is) = c.requires in
    let within = variable_within K c.args.index A is in
    let row = source_row (book_means c.args.book.now) c.args.book.now.nodes c.args.below.0 K from.sub from.target from.says in
    let size = c.laws_of_shifts.ensures.sizes row.0 K row.1 in
    omega (arith, within, size)
