use Rattle.derivation.proofs.UniqueLaws.{derives_one, no_bad, bad_one}
use Rattle.derivation.proofs.PrefixLaws.{right-earlier, derives_length, all_right-derives, all_right-from_derives}
use Rattle.derivation.proofs.ExistLaws.{right_or_bad, derives_derivable}
use Rattle.derivation.proofs.SoundLaws.{derivable_provable}
use Rattle.derivation.proofs.laws_of_files.Goals as goal

pub returns : goal.returns
returns c = record {
  right = no_bad;
  bad = bad_one;
  either = right_or_bad;
  derives = derives_one;
  derivable = derives_derivable;
  provable = derivable_provable;
  counted = derives_length;
  right_derives = all_right-derives;
  derives_right = all_right-from_derives;
  earlier = right-earlier;
}
