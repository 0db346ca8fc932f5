use Rattle.std.proofs.Common.{◌∙◌, ap, sym, rules, Some}
use denote.Enum.Bare.{same_true, same_false}
use Rattle.trees.specs.contracts.kind.PartKind.{the_type}
use Rattle.rows.specs.Shown.{things}
use Rattle.replay.proofs.FiledLaws.{at_thing, at_node, at_nothing, live_thing, row_within}
use Rattle.replay.proofs.NamedLaws.{thing_named, other_kind, no_thing}
use Rattle.replay.proofs.named.named.Goals as goal

pub kind-requires : goal.kind-requires
kind-requires c =
    let xs = things c.args.store.now in
    row_within xs c.in-Thing.row (live_thing xs c.args.filed.now _ c.in-Thing.row c.requires.filed (c.row.ensures ∙ ap Some c.in-Thing.is))

pub returns-then-eq-clause-some : goal.returns-then-eq-clause-some
returns-then-eq-clause-some c =
    let xs = things c.args.store.now in
    let same = same_true the_type (search rules) _ _ (sym c.eq.ensures ∙ c.if-eq.true) in
    thing_named xs c.args.filed.now c.args.number c.args.kind c.in-Thing.row (c.row.ensures ∙ ap Some c.in-Thing.is) (c.kind.ensures ∙ ap Some same)

pub returns-else-eq-clause-none : goal.returns-else-eq-clause-none
returns-else-eq-clause-none c =
    let xs = things c.args.store.now in
    let apart = same_false the_type _ _ (sym c.eq.ensures ∙ c.if-eq.false) in
    other_kind _ _ c.kind.result c.args.kind (at_thing xs c.args.filed.now c.args.number c.in-Thing.row (c.row.ensures ∙ ap Some c.in-Thing.is)).thing_is c.kind.ensures apart

pub returns-in-Node-clause-none : goal.returns-in-Node-clause-none
returns-in-Node-clause-none c =
    no_thing _ c.args.kind (at_node (things c.args.store.now) c.args.filed.now c.args.number c.in-Node.field-0 (c.row.ensures ∙ ap Some c.in-Node.is)).thing_is

pub returns-in-Nothing-clause-none : goal.returns-in-Nothing-clause-none
returns-in-Nothing-clause-none c =
    no_thing _ c.args.kind (at_nothing (things c.args.store.now) c.args.filed.now c.args.number (c.row.ensures ∙ ap Some c.in-Nothing.is)).thing_is
