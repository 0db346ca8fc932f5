use Rattle.std.proofs.Common.{◌≡◌, Some}
use Rattle.closures.specs.Shown.{lists}
use Rattle.closures.specs.Environments.{listed}
use Rattle.closures.proofs.WaitLaws.{waits-shift}
use Rattle.closures.proofs.heads.before.Goals as goal

pub returns-in_ok-shifted-in-Some-clause-list : goal.returns-in_ok-shifted-in-Some-clause-list
returns-in_ok-shifted-in-Some-clause-list g c =
    let none : c.size.result.pushed ≡ Some 0 = search in
    waits-shift (g.R.Rows.means c.args.rows.now) c.args.subst c.size.result (listed (lists c.args.environments.now) c.args.rest)
    (listed (lists c.shifted.new.environments) c.in_ok-shifted-in-Some.field-0) c.size.ensures none c.in_ok-shifted-in-Some.ensures.list
