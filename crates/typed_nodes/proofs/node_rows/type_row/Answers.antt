use Rattle.std.proofs.Common.{refl}
use Rattle.trees.specs.Language.{Tm}
use Rattle.trees.specs.Things.{ATree}
use Rattle.typed_nodes.proofs.node_rows.type_row.Goals as goal

pub row_at-requires : goal.row_at-requires
row_at-requires c =
    let (G, a, A, says) = c.requires in
    (Tm G a A, ATree A, says, refl)

pub returns : goal.returns
returns c = λ G a A says. c.row_at.ensures (Tm G a A) (ATree A) says refl
