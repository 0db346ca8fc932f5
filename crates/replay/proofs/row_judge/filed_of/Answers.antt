use Rattle.std.specs.Prelude.{option_and_then}
use Rattle.std.proofs.Common.{rules, ap, Some}
use Rattle.rows.specs.Shown.{things}
use Rattle.derivation.specs.Meanings.{Concludes}
use Rattle.replay.specs.Filed.{file_meanings}
use Rattle.replay.proofs.RowLaws.{filed_thing, thing_wrong, node_right, node_wrong, some_filed, not_empty}
use Rattle.replay.proofs.SideLaws.{keeps-grown}
use Rattle.replay.proofs.row_judge.filed_of.Goals as goal

pub returns-in-Some-clause-is : goal.returns-in-Some-clause-is
returns-in-Some-clause-is c =
    let xs = things c.args.store.now in
    let es = c.args.filed.now in
    let there = rw (c.in-Some.is, c.as_slice-parts.ensures, c.as_slice-premises.ensures) at c.in_ok-claim-in-Node.ensures.some in
    rw c.in-Node.is (
      Concludes there.0,
      node_right (file_meanings xs es) (some_filed xs es (not_empty es _ c.if-is_empty.false c.is_empty.ensures)) c.in-Node.rule c.in-Node.parts c.in-Node.premises there.0 there.1,
      ap (option_and_then (λ J. Some (Concludes J))) there.2,
    )

pub returns-in-None-clause-is : goal.returns-in-None-clause-is
returns-in-None-clause-is c =
    let xs = things c.args.store.now in
    let es = c.args.filed.now in
    let none = rw (c.in-None.is, c.as_slice-parts.ensures, c.as_slice-premises.ensures) at c.in_ok-claim-in-Node.ensures.none in
    rw c.in-Node.is (node_wrong (file_meanings xs es) (some_filed xs es (not_empty es _ c.if-is_empty.false c.is_empty.ensures)) c.in-Node.rule c.in-Node.parts c.in-Node.premises none)

pub returns-in-Some-2 : goal.returns-in-Some-2
returns-in-Some-2 c =
    let xs = things c.args.store.now in
    let es = c.args.filed.now in
    let made = rw c.in-Some-2.is at c.in_ok-at-in_default-row.ensures.made in
    record {
      kept = c.thing_row.ensures.kept;
      keeps = keeps-grown c.args.sides.now xs (things c.thing_row.new.store) c.thing_row.ensures.kept c.requires.keeps;
      is = filed_thing xs es (not_empty es _ c.if-is_empty.false c.is_empty.ensures) (things c.thing_row.new.store) c.args.row.now c.in-Some-2.at made;
    }

pub returns-in-None-2 : goal.returns-in-None-2
returns-in-None-2 c =
    let xs = things c.args.store.now in
    let es = c.args.filed.now in
    let none = rw c.in-None-2.is at c.in_ok-at-in_default-row.ensures.made in
    record {
      kept = c.thing_row.ensures.kept;
      keeps = keeps-grown c.args.sides.now xs (things c.thing_row.new.store) c.thing_row.ensures.kept c.requires.keeps;
      is = thing_wrong (file_meanings xs es) (some_filed xs es (not_empty es _ c.if-is_empty.false c.is_empty.ensures)) c.args.row.now c.in_default-row.not-Node c.in_default-row.not-Root none;
    }

pub returns-in_err-at-in_default-row : goal.returns-in_err-at-in_default-row
returns-in_err-at-in_default-row c = record {
  kept = c.thing_row.ensures.kept;
  keeps = keeps-grown c.args.sides.now (things c.args.store.now) (things c.thing_row.new.store) c.thing_row.ensures.kept c.requires.keeps;
  is = search rules;
}
