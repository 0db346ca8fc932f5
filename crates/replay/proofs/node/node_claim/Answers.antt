use Rattle.std.proofs.Common.{◌≡◌, ◌∙◌}
use Rattle.std.specs.Prelude.{slice_get}
use Rattle.trees.specs.Things.{meanings}
use Rattle.trees.specs.Claimed.{claimed}
use Rattle.rules.specs.Claims.{rule_over, conclusion_of}
use Rattle.replay.specs.Filed.{file_meanings}
use Rattle.rows.specs.Shown.{things}
use Rattle.replay.proofs.ShiftLaws.{parts_fit}
use Rattle.replay.proofs.NodeLaws.{right_node, wrong_parts, wrong_sides, some_parts}
use Rattle.replay.proofs.SideLaws.{keeps-grown, untrue}
use Rattle.replay.proofs.node.node_claim.Goals as goal

pub returns-in_default-clause-none : goal.returns-in_default-clause-none
returns-in_default-clause-none c =
    wrong_parts (things c.args.store.now) c.args.filed.now c.args.rule c.args.parts.now c.args.premises.now (rw (c.in_default.is, c.part_kinds.ensures.kinds) at c.in_ok-rows.ensures.none)

pub premises_hold-requires-clause-parts : goal.premises_hold-requires-clause-parts
premises_hold-requires-clause-parts c =
    rw c.deref.ensures.value (some_parts (things c.args.store.now) c.args.filed.now c.args.rule c.args.parts.now c.in-Some.rows.items (rw (c.in-Some.is, c.part_kinds.ensures.kinds) at c.in_ok-rows.ensures.some)).1

pub sides_hold-requires-clause-parts : goal.sides_hold-requires-clause-parts
sides_hold-requires-clause-parts c =
    rw (c.in_ok-premises_hold.ensures.same, c.deref-2.ensures.value) (some_parts (things c.args.store.now) c.args.filed.now c.args.rule c.args.parts.now c.in-Some.rows.items (rw (c.in-Some.is, c.part_kinds.ensures.kinds) at c.in_ok-rows.ensures.some)).1

pub sides_hold-requires-clause-keeps : goal.sides_hold-requires-clause-keeps
sides_hold-requires-clause-keeps c =
    keeps-grown c.args.sides.now (things c.args.store.now) (things c.premises_hold.new.store) c.premises_hold.ensures.kept c.requires.keeps

pub returns-then-not-branch-clause-keeps : goal.returns-then-not-branch-clause-keeps
returns-then-not-branch-clause-keeps c =
    keeps-grown c.args.sides.now (things c.args.store.now) (things c.premises_hold.new.store) c.premises_hold.ensures.kept c.requires.keeps

pub returns-in_err-premises_hold-clause-keeps : goal.returns-in_err-premises_hold-clause-keeps
returns-in_err-premises_hold-clause-keeps c =
    keeps-grown c.args.sides.now (things c.args.store.now) (things c.premises_hold.new.store) c.premises_hold.ensures.kept c.requires.keeps

pub returns-then-not-branch-2-clause-none : goal.returns-then-not-branch-2-clause-none
returns-then-not-branch-2-clause-none c =
    let xs = things c.args.store.now in
    let rows = c.in-Some.rows.items in
    let P = meanings (slice_get xs) rows in
    let parts = some_parts xs c.args.filed.now c.args.rule c.args.parts.now rows (rw (c.in-Some.is, c.part_kinds.ensures.kinds) at c.in_ok-rows.ensures.some) in
    let hold = rw (c.in_ok-premises_hold.ensures.same, c.deref-2.ensures.value) at c.in_ok-sides_hold.ensures.hold in
    wrong_sides (file_meanings xs c.args.filed.now) c.args.rule c.args.parts.now c.args.premises.now P parts.0
    (λ all. untrue _ c.if-not-branch-2.true (hold.1 all))

pub concluded-requires-clause-parts : goal.concluded-requires-clause-parts
concluded-requires-clause-parts c =
    rw (c.in_ok-sides_hold.ensures.same, c.in_ok-premises_hold.ensures.same, c.deref-3.ensures.value) (some_parts (things c.args.store.now) c.args.filed.now c.args.rule c.args.parts.now c.in-Some.rows.items (rw (c.in-Some.is, c.part_kinds.ensures.kinds) at c.in_ok-rows.ensures.some)).1

pub returns-clause-some : goal.returns-clause-some
returns-clause-some c =
    let xs = things c.args.store.now in
    let rows = c.in-Some.rows.items in
    let P = meanings (slice_get xs) rows in
    let parts = some_parts xs c.args.filed.now c.args.rule c.args.parts.now rows (rw (c.in-Some.is, c.part_kinds.ensures.kinds) at c.in_ok-rows.ensures.some) in
    let hold = rw c.deref.ensures.value at (c.in_ok-premises_hold.ensures.hold.0 c.if-not-branch.false) in
    let sides = rw (c.in_ok-premises_hold.ensures.same, c.deref-2.ensures.value) at (c.in_ok-sides_hold.ensures.hold.0 c.if-not-branch-2.false) in
    let right = right_node (file_meanings xs c.args.filed.now) c.args.rule c.args.parts.now c.args.premises.now P parts.0 parts.1 hold sides in
    let claim : claimed (slice_get (things c.concluded.new.maker)) c.in_ok-concluded.field-0 ≡ conclusion_of (rule_over c.args.rule P) =
    rw (c.in_ok-sides_hold.ensures.same, c.in_ok-premises_hold.ensures.same, c.deref-3.ensures.value) at c.in_ok-concluded.ensures.claim in
    (right.0, right.1, claim ∙ right.2)

pub returns-clause-keeps : goal.returns-clause-keeps
returns-clause-keeps c =
    keeps-grown c.sides_hold.new.sides (things c.sides_hold.new.store) (things c.concluded.new.maker) c.concluded.ensures.kept c.sides_hold.ensures.keeps

pub returns-in_err-concluded-clause-keeps : goal.returns-in_err-concluded-clause-keeps
returns-in_err-concluded-clause-keeps c =
    keeps-grown c.sides_hold.new.sides (things c.sides_hold.new.store) (things c.concluded.new.maker) c.concluded.ensures.kept c.sides_hold.ensures.keeps

pub concluded-requires-clause-shifts : goal.concluded-requires-clause-shifts
concluded-requires-clause-shifts c =
    let names = rw c.in-Some.is at c.in_ok-rows.ensures.some in
    rw (c.in_ok-sides_hold.ensures.same, c.in_ok-premises_hold.ensures.same, c.deref-3.ensures.value) (parts_fit (things c.args.store.now) c.args.filed.now c.args.parts.now c.part_kinds.result.now c.in-Some.rows.items c.requires.fit names)
