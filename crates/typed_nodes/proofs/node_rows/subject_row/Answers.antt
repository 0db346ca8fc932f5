use Rattle.trees.specs.Things.{ATree}
use Rattle.typed_nodes.proofs.TypeLaws.{subject_field}
use Rattle.typed_nodes.proofs.node_rows.subject_row.Goals as goal

pub row_at-requires : goal.row_at-requires
row_at-requires c =
    let (J, t, says, subject) = c.requires in
    (J, ATree t, says, subject_field J t subject)

pub returns : goal.returns
returns c = λ J t says subject. c.row_at.ensures J (ATree t) says (subject_field J t subject)
