use Rattle.std.proofs.Common.{◌≡◌, ◌&&◌, ◌||◌, Bool, take}
use Rattle.std.specs.List.{list_all}
use Rattle.antichains.specs.Antichains.{some_all}
use Rattle.antichains.proofs.sums.Antichain.meet.Given as goal

abbrev pub invariant-loop-left : goal.invariant-loop-left
invariant-loop-left g l =
    (test : g.row.T.Denot → Bool) → some_all test l.products.items ≡ (some_all test (take l.left-index l.left-items) && some_all test l.other)

abbrev pub invariant-loop-right : goal.invariant-loop-right
invariant-loop-right g l =
    (test : g.row.T.Denot → Bool) → some_all test l.products.items ≡ (some_all test l.initial.products.items || (list_all test l.left && some_all test (take l.right-index l.right-items)))
