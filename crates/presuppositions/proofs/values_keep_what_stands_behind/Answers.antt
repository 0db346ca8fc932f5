use Rattle.presuppositions.proofs.BehindLaws.{behind-values, source-values}
use Rattle.presuppositions.proofs.values_keep_what_stands_behind.Goals as goal

pub returns : goal.returns
returns c = record { judgement = behind-values; sources = source-values }
