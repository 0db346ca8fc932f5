use Rattle.std.proofs.Common.{ap, ◌∙◌, map}
use Rattle.translation.specs.Forms.{unglued}
use Rattle.codes.specs.Codes.{meaning, pair_side}
use Rattle.codes.proofs.Rows.{meaning_of-Unglue}
use Rattle.codes.specs.Shapes.{shape, of_pair_side, listed, Unglue}
use Rattle.codes.proofs.ShapeRows.{unglue_shape}
use Rattle.codes.proofs.code.Code.unglue.Goals as goal

pub returns-clause-means : goal.returns-clause-means
returns-clause-means c =
    meaning_of-Unglue c.args.span c.in_ok-base.base c.args.sides
    ∙ ap (λ x. unglued (meaning x) (map pair_side c.args.sides.items)) c.in_ok-base.ensures.ok

pub returns-clause-shaped : goal.returns-clause-shaped
returns-clause-shaped c =
    unglue_shape c.args.span c.in_ok-base.base c.args.sides
    ∙ ap (λ x. Unglue c.args.span (shape x) (listed of_pair_side c.args.sides.items)) c.in_ok-base.ensures.ok
