use Rattle.std.proofs.Common.{◌≡◌, ◌⊎◌, inl, inr, [], ◌++◌, drop, arith, rules}
use Rattle.std.specs.List.Sorted.{IsStrictlySortedBy}
use Rattle.std.proofs.lemmas.List.{drop_all}
use Rattle.antichains.specs.Antichains.{IsUnion}
use Rattle.antichains.proofs.Exact.{IsExactOrder}
use Rattle.antichains.proofs.Merging.{merging_none, step_less, step_equal, step_greater, merged_all}
use Rattle.antichains.proofs.sorted.merge.Given.{Over}
use Rattle.antichains.proofs.sorted.merge.Goals as goal
use Rattle.antichains.proofs.sorted.merge.Goals.{then-loop-i-test+else-j-right, else-loop-i-test}

pub loop-i-init : goal.loop-i-init
loop-i-init g c = record {
  left_in_range = omega arith;
  right_in_range = omega arith;
  merging = rw c.in_ok-union.ensures.items (merging_none g.T.Ord.cmp c.args.left.now c.args.right.now c.requires.left_sorted c.requires.right_sorted);
}

pub loop-i-preserved-in-Less : goal.loop-i-preserved-in-Less
loop-i-preserved-in-Less g c =
    let o : IsExactOrder g.T.Ord.cmp = record { total = g.met.T.Ord.total; exact = g.met.T.Element.exact } in
    record {
      left_in_range = omega arith;
      right_in_range = omega arith;
      merging = step_less o c.args.left.now c.args.right.now c.loop-i.union.items c.push.new.self.items c.loop-i.i c.loop-i.j c.index-left-i.result c.index-right-j.result c.loop-i-test.true c.if-j-right.true c.index-left-i.is c.index-right-j.is c.loop-i.invariant.merging c.in-Less.ensures c.in_ok-push-in-Less.ensures.items;
    }

pub loop-i-preserved-in-Equal : goal.loop-i-preserved-in-Equal
loop-i-preserved-in-Equal g c =
    let o : IsExactOrder g.T.Ord.cmp = record { total = g.met.T.Ord.total; exact = g.met.T.Element.exact } in
    record {
      left_in_range = omega arith;
      right_in_range = omega arith;
      merging = step_equal o c.args.left.now c.args.right.now c.loop-i.union.items c.push-in-Equal.new.self.items c.loop-i.i c.loop-i.j c.index-left-i.result c.index-right-j.result c.loop-i-test.true c.if-j-right.true c.index-left-i.is c.index-right-j.is c.loop-i.invariant.merging c.in-Equal.ensures c.in_ok-push-in-Equal.ensures.items;
    }

pub loop-i-preserved : goal.loop-i-preserved
loop-i-preserved g c =
    let o : IsExactOrder g.T.Ord.cmp = record { total = g.met.T.Ord.total; exact = g.met.T.Element.exact } in
    record {
      left_in_range = omega arith;
      right_in_range = omega arith;
      merging = step_greater o c.args.left.now c.args.right.now c.loop-i.union.items c.push-in-Greater.new.self.items c.loop-i.i c.loop-i.j c.index-left-i.result c.index-right-j.result c.loop-i-test.true c.if-j-right.true c.index-left-i.is c.index-right-j.is c.loop-i.invariant.merging c.in-Greater.ensures c.in_ok-push-in-Greater.ensures.items;
    }

-- one of the lists is used up, and the other is appended
merged : (g : Over) (c : goal.In_ok-extend_from_slice-2 g) → IsStrictlySortedBy g.T.Ord.cmp c.extend_from_slice-2.new.self.items × IsUnion c.args.left.now c.args.right.now c.extend_from_slice-2.new.self.items
merged g c =
    let rest = drop c.loop-i.i c.args.left.now in
    let more = drop c.loop-i.j c.args.right.now in
    let ended : (rest ≡ []) ⊎ (more ≡ []) =
    elim c.loop-i-test.branch [
      | then-loop-i-test+else-j-right w ↦ inr (drop_all c.loop-i.j c.args.right.now (omega arith))
      | else-loop-i-test w ↦ inl (drop_all c.loop-i.i c.args.left.now (omega arith))
    ]
    in
    let items : c.extend_from_slice-2.new.self.items ≡ (c.loop-i.union.items ++ rest) ++ more = search rules in
    rw items (merged_all c.args.left.now c.args.right.now c.loop-i.union.items rest more c.loop-i.invariant.merging ended)

pub returns-clause-sorted : goal.returns-clause-sorted
returns-clause-sorted g c = (merged g c).0

pub returns-clause-union : goal.returns-clause-union
returns-clause-union g c = (merged g c).1
