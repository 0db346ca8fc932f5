use Rattle.std.proofs.Common.{◌∙◌, arith}
use Rattle.book.specs.Shown.{book_means}
use Rattle.book_writer.specs.Needed.{among}
use Rattle.book_writer.proofs.NeededLaws.{among-some, may-add, mark-is, unmarked}
use Rattle.book_writer.proofs.copies.add_needed.Goals as goal

pub add_row-requires-clause-may : goal.add_row-requires-clause-may
add_row-requires-clause-may c =
    let here = mark-is c.args.needed.now c.args.row c.requires.count c.if-needed-row.true in
    (among c.args.needed.now (book_means c.args.book.now), may-add c.args.book.now c.args.needed.now c.args.row c.args.lines.now c.args.places.now here c.requires.there c.requires.stand c.requires.placed)

pub returns-in_ok-add_row-clause-meaning : goal.returns-in_ok-add_row-clause-meaning
returns-in_ok-add_row-clause-meaning c = λ x e.
    let b = c.args.book.now in
    let f = among c.args.needed.now (book_means b) in
    let here = mark-is c.args.needed.now c.args.row c.requires.count c.if-needed-row.true in
    let a = among-some c.args.needed.now (book_means b) c.args.row x e in
    c.in_ok-add_row.ensures.meaning f (may-add b c.args.needed.now c.args.row c.args.lines.now c.args.places.now here c.requires.there c.requires.stand c.requires.placed)
    ∙ c.requires.stand.each c.args.row x (omega arith) here a.is

pub returns-else-needed-row-clause-meaning : goal.returns-else-needed-row-clause-meaning
returns-else-needed-row-clause-meaning c = λ x e.
    absurd (unmarked c.args.needed.now c.args.row c.requires.count c.if-needed-row.false (among-some c.args.needed.now (book_means c.args.book.now) c.args.row x e).is_marked)
