use Rattle.std.proofs.Common.{[]}
use Rattle.std.proofs.lemmas.Bool.{false≢true}
use Rattle.deriv_file.proofs.RowLaws.{tree_row, same_rest}
use Rattle.deriv_file.proofs.line.tree.Goals as goal

pub returns-in_default-2 : goal.returns-in_default-2
returns-in_default-2 c = λ row e stands.
    let named = c.in-Some-op_of.ensures.some in
    let kids = tree_row c.args.place.version c.args.place.at c.args.words.now c.take.new.self c.in-Some.name.now c.in-Some-op_of.op c.kid_count.result c.in-Some.ensures named.0 c.kid_count.ensures row e stands in
    let none = rw c.in_default-2.is at c.in_ok-kids.ensures.none in
    none kids.0 [] kids.2

pub returns-then-not-is_empty : goal.returns-then-not-is_empty
returns-then-not-is_empty c = λ row e stands.
    let named = c.in-Some-op_of.ensures.some in
    let kids = tree_row c.args.place.version c.args.place.at c.args.words.now c.take.new.self c.in-Some.name.now c.in-Some-op_of.op c.kid_count.result c.in-Some.ensures named.0 c.kid_count.ensures row e stands in
    let taken = rw c.in-Some-2.is at c.in_ok-kids.ensures.some in
    let done = same_rest c.take.new.self c.kid_count.result c.args.place.at c.in-Some-2.kids kids.0 c.numbers.new.self [] taken kids.2 in
    false≢true (c.if-not-is_empty.ensures.1 done)
