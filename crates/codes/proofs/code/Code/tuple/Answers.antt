use Rattle.codes.proofs.Rows.{meaning_of-Tuple}
use Rattle.codes.proofs.ShapeRows.{tuple_shape}
use Rattle.codes.proofs.code.Code.tuple.Goals as goal

pub returns-clause-means : goal.returns-clause-means
returns-clause-means c = meaning_of-Tuple c.args.span c.args.components

pub returns-clause-shaped : goal.returns-clause-shaped
returns-clause-shaped c =
    tuple_shape c.args.span c.args.components
