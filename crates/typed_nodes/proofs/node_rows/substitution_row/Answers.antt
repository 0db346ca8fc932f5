use Rattle.std.proofs.Common.{refl}
use Rattle.trees.specs.Language.{Sb}
use Rattle.trees.specs.Things.{ASubst}
use Rattle.typed_nodes.proofs.node_rows.substitution_row.Goals as goal

pub row_at-requires : goal.row_at-requires
row_at-requires c =
    let (H, G, d, says) = c.requires in
    (Sb H d G, ASubst d, says, refl)

pub returns : goal.returns
returns c = λ H G d says. c.row_at.ensures (Sb H d G) (ASubst d) says refl
