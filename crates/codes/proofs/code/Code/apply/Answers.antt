use Rattle.std.proofs.Common.{ap, ◌∙◌, map}
use Rattle.translation.specs.Forms.{application}
use Rattle.codes.specs.Codes.{meaning, element}
use Rattle.codes.proofs.Rows.{meaning_of-Apply}
use Rattle.codes.specs.Shapes.{shape, element_shape, listed, apply}
use Rattle.codes.proofs.ShapeRows.{apply_shape, some_items}
use Rattle.codes.proofs.code.Code.apply.Goals as goal

pub returns-clause-means : goal.returns-clause-means
returns-clause-means c =
    meaning_of-Apply c.args.span c.in_ok-head.head c.args.elements
    ∙ ap (λ x. application (meaning x) (map element c.args.elements.items)) c.in_ok-head.ensures.ok

pub returns-clause-shaped : goal.returns-clause-shaped
returns-clause-shaped c =
    apply_shape c.args.span c.in_ok-head.head c.args.elements (some_items c.args.elements.items c.args.elements.len c.args.elements.ok.0 c.if-is_empty.ensures)
    ∙ ap (λ x. apply c.args.span (shape x) (listed element_shape c.args.elements.items)) c.in_ok-head.ensures.ok
