use Rattle.std.proofs.Common.{ap, ◌∙◌, map}
use Rattle.translation.specs.Forms.{glue_of_types}
use Rattle.codes.specs.Codes.{meaning, pair_side}
use Rattle.codes.proofs.Rows.{meaning_of-GlueType}
use Rattle.codes.specs.Shapes.{shape, of_pair_side, listed, GlueType}
use Rattle.codes.proofs.ShapeRows.{glue_type_shape}
use Rattle.codes.proofs.code.Code.glue_type.Goals as goal

pub returns-clause-means : goal.returns-clause-means
returns-clause-means c =
    meaning_of-GlueType c.args.span c.in_ok-base.base c.args.sides
    ∙ ap (λ x. glue_of_types (meaning x) (map pair_side c.args.sides.items)) c.in_ok-base.ensures.ok

pub returns-clause-shaped : goal.returns-clause-shaped
returns-clause-shaped c =
    glue_type_shape c.args.span c.in_ok-base.base c.args.sides
    ∙ ap (λ x. GlueType c.args.span (shape x) (listed of_pair_side c.args.sides.items)) c.in_ok-base.ensures.ok
