use Rattle.std.proofs.Common.{◌∙◌, ap, Some, arith}
use Rattle.replay.specs.Filed.{file_meanings}
use Rattle.rows.specs.Shown.{things}
use Rattle.replay.proofs.FiledLaws.{at_thing, at_node, at_nothing, live_node}
use Rattle.replay.proofs.RowLaws.{root_filed, root_wrong, some_filed}
use Rattle.replay.proofs.row_judge.filed_root.Goals as goal

pub returns-in-Node : goal.returns-in-Node
returns-in-Node c =
    let xs = things c.args.store.now in
    let es = c.args.filed.now in
    root_filed (file_meanings xs es) (some_filed xs es (omega (arith, c.requires.earlier))) c.args.node _ (live_node xs es c.args.node c.in-Node.field-0 c.requires.filed (c.row.ensures ∙ ap Some c.in-Node.is)) (at_node xs es c.args.node c.in-Node.field-0 (c.row.ensures ∙ ap Some c.in-Node.is)).conclusion_is

pub returns-in-Thing : goal.returns-in-Thing
returns-in-Thing c =
    let xs = things c.args.store.now in
    let es = c.args.filed.now in
    root_wrong (file_meanings xs es) (some_filed xs es (omega (arith, c.requires.earlier))) c.args.node (at_thing xs es c.args.node c.in-Thing.field-0 (c.row.ensures ∙ ap Some c.in-Thing.is)).conclusion_is

pub returns-in-Nothing : goal.returns-in-Nothing
returns-in-Nothing c =
    let xs = things c.args.store.now in
    let es = c.args.filed.now in
    root_wrong (file_meanings xs es) (some_filed xs es (omega (arith, c.requires.earlier))) c.args.node (at_nothing xs es c.args.node (c.row.ensures ∙ ap Some c.in-Nothing.is)).conclusion_is
