use Rattle.std.proofs.Common.{◌≡◌, sym, subst, arith, Some}
use Rattle.trees.specs.Trees.{shift_by, then}
use Rattle.closures.specs.Closures.{delayed_subst}
use Rattle.closures.specs.declared.environments.Delayed.{Delayed}
use Rattle.closures.proofs.WaitLaws.{drops-all}
use Rattle.closures.proofs.heads.shift_past.Goals as goal

pub returns-in_ok-both-in-Under : goal.returns-in_ok-both-in-Under
returns-in_ok-both-in-Under g c =
    let f = g.R.Rows.means c.args.rows.now in
    let both = c.in_ok-both-in-Under.both in
    let Are : Delayed → Type 0 = λ d. then (shift_by c.args.shift) (delayed_subst f d) ≡ shift_by both in
    let some : c.size.result.pushed ≡ Some c.in-Some.pushed = search in
    let left = c.in_ok-left-in-Under.ensures in
    let sum = c.in_ok-both-in-Under.ensures in
    subst Are (sym c.in-Under.is)
    (drops-all (f c.in-Under.subst.0) c.size.result c.args.shift c.in-Some.pushed both c.size.ensures some (omega (arith, left.0)) (omega (arith, left.1, sum.1)))
