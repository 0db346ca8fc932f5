use Rattle.std.proofs.Common.{◌≡◌, ◌+◌, ◌-◌, arith, Some}
use Rattle.weakenings.proofs.WeakeningLaws.{passes, sized}
use Rattle.weakenings.proofs.weakened.passed.Goals as goal

pub returns-in-Ok : goal.returns-in-Ok
returns-in-Ok g c =
    let f = g.R.Rows.means c.args.rows.now in
    let some : c.size.result.pushed ≡ Some c.in-Some.pushed = search in
    let by = c.in_ok-index.ensures in
    let same : c.from.result ≡ c.in-Var.index = c.from.ensures in
    let index : c.in-Ok.index ≡ c.in-Var.index - c.in-Some.pushed + c.size.result.shift = omega (arith, c.in-Ok.ensures.1, by.1, same) in
    passes (f c.args.term.0) (f c.args.sub.0) c.in-Var.index c.in-Some.pushed c.size.result.shift c.in-Ok.index c.in-Var.ensures.meaning
    (sized (f c.args.sub.0) c.size.result c.in-Some.pushed c.size.ensures some) (omega (arith, by.0, same)) index
