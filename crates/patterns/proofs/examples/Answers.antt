use Rattle.std.proofs.Common.{refl}
use Rattle.patterns.proofs.ExampleProofs.{every_example-holds}
use Rattle.patterns.proofs.examples.Goals as goal

pub returns : goal.returns
returns c = record {
  hold = every_example-holds;
  filling = refl;
  laws = refl;
}
