use Rattle.std.proofs.Common.{◌≡◌, true, rules}
use Rattle.compare.specs.declared.pairs.Pair.{Pair}
use Rattle.compare.specs.contracts.pairs.PairPartialEq.TheImpl.{eq-value}
use Rattle.compare.proofs.PairLaws.{adds}
use Rattle.compare.proofs.pairs.add_pair.Goals as goal

equal : (x y : Pair) → eq-value.it x y ≡ true → x ≡ y
equal = search rules

pub returns-in-Ok : goal.returns-in-Ok
returns-in-Ok c = adds eq-value.it equal c.args.pair c.args.pairs.now.keys c.insert_full.new.self.keys c.in-Ok.ensures.keys
