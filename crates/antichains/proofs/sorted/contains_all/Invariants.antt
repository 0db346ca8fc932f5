use Rattle.std.proofs.Common.{◌≡◌, ◌≤◌, length, drop}
use Rattle.antichains.proofs.Seeking.{finds_all}
use Rattle.antichains.proofs.sorted.contains_all.Given as goal

abbrev pub invariant-loop-element : goal.invariant-loop-element
invariant-loop-element g l = record {
  in_range : l.found ≤ length l.wanted;
  as_before : finds_all g.T.Ord.cmp (drop l.element-index l.list) (drop l.found l.wanted) ≡ finds_all g.T.Ord.cmp l.list l.wanted;
}
