use Rattle.std.proofs.Common.{◌≡◌, true, rules}
use Rattle.closures.specs.declared.environments.Environment.{Environment}
use Rattle.closures.specs.contracts.environments.EnvironmentPartialEq.TheImpl.{eq-value}
use Rattle.closures.specs.Shown.{lists}
use Rattle.compare.proofs.OpenLaws.{rows-open}
use Rattle.compare.proofs.walk.settle_pair.Goals as goal

equal : (x y : Environment) → eq-value.it x y ≡ true → x ≡ y
equal = search rules

pub returns-then-read_alike-clause-yes : goal.returns-then-read_alike-clause-yes
returns-then-read_alike-clause-yes g c =
    λ e. rows-open (g.R.Rows.means c.args.rows.now) (lists c.args.environments.now) _ c.args.pair c.args.pairs.now.keys c.requires (equal _ _ cc) (c.read_alike.ensures (search rules))
