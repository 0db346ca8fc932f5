use Rattle.std.proofs.Common.{◌≡◌, Some}
use Rattle.weakenings.proofs.WeakeningLaws.{both_shift, sized}
use Rattle.weakenings.proofs.weakened.shift_of_both.Goals as goal

pub returns-then-by-le-GREATEST_SHIFT-clause-both : goal.returns-then-by-le-GREATEST_SHIFT-clause-both
returns-then-by-le-GREATEST_SHIFT-clause-both g c =
    let f = g.R.Rows.means c.args.rows.now in
    let none : c.size.result.pushed ≡ Some 0 = search in
    let some : c.size-2.result.pushed ≡ Some c.in-Some-size.pushed = search in
    let by = c.in_ok-by.ensures in
    both_shift (f c.args.first.0) (f c.args.second.0) c.size.result.shift c.in-Some-size.pushed c.size-2.result.shift c.in_ok-by.by
    (sized (f c.args.first.0) c.size.result 0 c.size.ensures none) (sized (f c.args.second.0) c.size-2.result c.in-Some-size.pushed c.size-2.ensures some) by.0 by.1
