use Rattle.std.proofs.Common.{refl}
use Rattle.direct.proofs.TreeLaws.{same_means_one, one_means_same}
use Rattle.direct.proofs.laws.laws_of_direct_codes.Goals as goal

pub returns : goal.returns
returns c = record {
  same = λ t u. (same_means_one t u, one_means_same t u);
  functions = (refl, refl, refl, refl);
  applications = (refl, refl, refl);
  pairs = (refl, refl, refl);
  paths = (refl, refl, refl);
  universes = (refl, refl, refl, refl, refl);
  transports = (refl, refl);
  recursions = refl;
}
