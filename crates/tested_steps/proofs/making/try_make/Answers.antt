use Rattle.std.proofs.Common.{◌≡◌, length, arith}
use Rattle.trees.specs.Operators.{kids_of}
use Rattle.rows.proofs.MeaningLaws.{made-some}
use Rattle.book.specs.Shown.{book_means}
use Rattle.tested_steps.proofs.making.try_make.Goals as goal

pub make-requires : goal.make-requires
make-requires c =
    let count : length c.args.kids.now ≡ kids_of c.args.op = omega (arith, c.if-kids-kid_count.false, c.kid_count.ensures) in
    made-some (book_means c.args.book.now) c.args.op c.args.kids.now count (c.are_trees.ensures.0 c.if-not-are_trees.false)
