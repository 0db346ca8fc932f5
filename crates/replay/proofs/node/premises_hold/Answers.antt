use Rattle.std.proofs.Common.{◌<◌, ◌≤◌, ◌∙◌, length, arith, refl}
use Rattle.std.specs.Prelude.{slice_get}
use Rattle.trees.specs.Things.{meanings}
use Rattle.derivation.specs.Meanings.{conclusion_at}
use Rattle.replay.specs.Filed.{file_meanings}
use Rattle.rows.specs.Shown.{things}
use Rattle.replay.proofs.NodeLaws.{one_holds, all_hold, must_hold}
use Rattle.replay.proofs.Equality.{refuted}
use Rattle.replay.proofs.node.premises_hold.Goals as goal

pub returns-then-not-branch-clause-hold : goal.returns-then-not-branch-clause-hold
returns-then-not-branch-clause-hold c =
    let xs = things c.args.store.now in
    let P = meanings (slice_get xs) c.args.rows.now in
    let f = conclusion_at (file_meanings xs c.args.filed.now) in
    let lt : c.loop-at.at < length c.args.premises.now = omega (arith, c.requires.count, c.count_premises-at-end.ensures) in
    refuted _ _ (λ e. (rw c.loop-at.invariant.0 at c.in_ok-premise_holds.ensures.holds).1 (must_hold f c.args.premises.now c.args.rule P c.loop-at.at c.requires.parts lt e)) c.if-not-branch.true

pub loop-at-preserved : goal.loop-at-preserved
loop-at-preserved c =
    let xs = things c.args.store.now in
    let P = meanings (slice_get xs) c.args.rows.now in
    let f = conclusion_at (file_meanings xs c.args.filed.now) in
    let lt : c.loop-at.at < length c.args.premises.now = omega (arith, c.requires.count, c.count_premises-at-end.ensures) in (
      c.in_ok-premise_holds.ensures.same ∙ c.loop-at.invariant.0,
      one_holds f c.args.premises.now c.args.rule P c.loop-at.at c.requires.parts c.requires.count lt c.loop-at.invariant.1 ((rw c.loop-at.invariant.0 at c.in_ok-premise_holds.ensures.holds).0 c.if-not-branch.false),
    )

pub returns-clause-hold : goal.returns-clause-hold
returns-clause-hold c =
    let xs = things c.args.store.now in
    let P = meanings (slice_get xs) c.args.rows.now in
    let f = conclusion_at (file_meanings xs c.args.filed.now) in
    let le : length c.args.premises.now ≤ c.loop-at.at = omega (arith, c.requires.count, c.count_premises-at-end.ensures) in (
      λ h. all_hold f c.args.premises.now c.args.rule P c.loop-at.at c.requires.parts c.requires.count le c.loop-at.invariant.1,
      λ h. refl,
    )
