use Rattle.std.proofs.Common.{refl}
use Rattle.patterns.proofs.Differences.{one_index_off-differ}
use Rattle.patterns.proofs.refusals.Goals as goal

pub returns : goal.returns
returns c = record {
  refused = refl;
  differ = one_index_off-differ;
}
