use Rattle.std.proofs.Common.{ap, ◌∙◌, map}
use Rattle.translation.specs.Forms.{composition}
use Rattle.codes.specs.Codes.{meaning, at_name, line_side}
use Rattle.codes.proofs.Rows.{meaning_of-Comp}
use Rattle.codes.specs.Shapes.{shape, opened_shape, of_line_side, listed, Comp}
use Rattle.codes.proofs.ShapeRows.{comp_shape}
use Rattle.codes.proofs.code.Code.comp.Goals as goal

pub returns-clause-means : goal.returns-clause-means
returns-clause-means c =
    meaning_of-Comp c.args.span c.in_ok-line.line c.in_ok-base.base c.args.sides
    ∙ ap (λ x. composition (at_name x) (meaning c.in_ok-base.base.value) (map line_side c.args.sides.items)) c.in_ok-line.ensures.ok
    ∙ ap (λ x. composition (at_name c.args.line) (meaning x) (map line_side c.args.sides.items)) c.in_ok-base.ensures.ok

pub returns-clause-shaped : goal.returns-clause-shaped
returns-clause-shaped c =
    comp_shape c.args.span c.in_ok-line.line c.in_ok-base.base c.args.sides
    ∙ ap (λ x. Comp c.args.span (opened_shape x) (shape c.in_ok-base.base.value) (listed of_line_side c.args.sides.items)) c.in_ok-line.ensures.ok
    ∙ ap (λ x. Comp c.args.span (opened_shape c.args.line) (shape x) (listed of_line_side c.args.sides.items)) c.in_ok-base.ensures.ok
