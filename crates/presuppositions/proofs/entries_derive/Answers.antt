use Rattle.presuppositions.proofs.TreeLaws.{entry-derives}
use Rattle.presuppositions.proofs.entries_derive.Goals as goal

pub returns : goal.returns
returns c = entry-derives
