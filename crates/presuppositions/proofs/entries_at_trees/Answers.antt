use Rattle.presuppositions.proofs.TreeLaws.{entry-at}
use Rattle.presuppositions.proofs.entries_at_trees.Goals as goal

pub returns : goal.returns
returns c = λ name l ss s xs kinds is r r_is. entry-at name l ss s xs kinds is r r_is
