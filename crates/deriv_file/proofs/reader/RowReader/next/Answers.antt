use Rattle.std.proofs.Common.{◌<◌, length, ap, arith, rules}
use Rattle.deriv_file.proofs.LineLaws.{length-drop_through-lt}
use Rattle.deriv_file.proofs.reader.RowReader.next.Goals as goal

pub invariant_of-self : goal.invariant_of-self
invariant_of-self c =
    let first = rw c.in-Some.is at c.in_ok-row.ensures in
    let some : 0 < length c.self.inside.rest.now = search rules in
    omega (arith, ap length first.1, length-drop_through-lt c.self.inside.rest.now some, c.self.invariant)
