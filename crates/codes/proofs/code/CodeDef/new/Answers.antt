use Rattle.codes.proofs.Rows.{definition_of}
use Rattle.codes.proofs.ShapeRows.{shape_of_def}
use Rattle.codes.proofs.code.CodeDef.new.Goals as goal

pub returns-clause-means : goal.returns-clause-means
returns-clause-means c = definition_of c.args.name c.args.number c.args.binders c.args.ty c.args.body

pub returns-clause-shaped : goal.returns-clause-shaped
returns-clause-shaped c = shape_of_def c.args.name c.args.number c.args.binders c.args.ty c.args.body
