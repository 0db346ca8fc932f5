use Rattle.std.proofs.lemmas.Bool.{both_ways}
use Rattle.faces.proofs.Meeting.{implied_by_contradiction, implied_by_merge, merge_outside}
use Rattle.faces.proofs.faces.merge_outside.Goals as goal

pub returns-then-contradict : goal.returns-then-contradict
returns-then-contradict c =
    implied_by_contradiction c.args.left.now c.args.right.now c.args.excluded.now (c.contradict.ensures.0 c.if-contradict.true)

pub returns-then-is_implied_by : goal.returns-then-is_implied_by
returns-then-is_implied_by c =
    implied_by_merge c.args.left.now c.args.right.now c.in_ok-both.both c.args.excluded.now c.in_ok-both.ensures
    (c.is_implied_by.ensures.0 c.if-is_implied_by.true)

pub returns-else-is_implied_by : goal.returns-else-is_implied_by
returns-else-is_implied_by c =
    merge_outside c.args.left.now c.args.right.now c.in_ok-both.both c.args.excluded.now c.requires.left_consistent c.requires.right_consistent c.in_ok-both.ensures
    (λ against. both_ways c.contradict.result c.if-contradict.false (c.contradict.ensures.1 against))
    (λ within. both_ways c.is_implied_by.result c.if-is_implied_by.false (c.is_implied_by.ensures.1 within))
