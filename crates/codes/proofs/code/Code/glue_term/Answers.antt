use Rattle.std.proofs.Common.{ap, ◌∙◌, map}
use Rattle.translation.specs.Forms.{glue_of_terms}
use Rattle.codes.specs.Codes.{meaning, term_side}
use Rattle.codes.proofs.Rows.{meaning_of-GlueTerm}
use Rattle.codes.specs.Shapes.{shape, of_side, listed, GlueTerm}
use Rattle.codes.proofs.ShapeRows.{glue_term_shape}
use Rattle.codes.proofs.code.Code.glue_term.Goals as goal

pub returns-clause-means : goal.returns-clause-means
returns-clause-means c =
    meaning_of-GlueTerm c.args.span c.in_ok-base.base c.args.sides
    ∙ ap (λ x. glue_of_terms (meaning x) (map term_side c.args.sides.items)) c.in_ok-base.ensures.ok

pub returns-clause-shaped : goal.returns-clause-shaped
returns-clause-shaped c =
    glue_term_shape c.args.span c.in_ok-base.base c.args.sides
    ∙ ap (λ x. GlueTerm c.args.span (shape x) (listed of_side c.args.sides.items)) c.in_ok-base.ensures.ok
