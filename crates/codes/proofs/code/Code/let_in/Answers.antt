use Rattle.std.proofs.Common.{ap, ◌∙◌}
use Rattle.translation.specs.Forms.{after}
use Rattle.codes.specs.Codes.{meaning, definitions}
use Rattle.codes.proofs.Rows.{meaning_of-Let}
use Rattle.codes.specs.Shapes.{shape, def_shape, listed, Let}
use Rattle.codes.proofs.ShapeRows.{let_shape}
use Rattle.codes.proofs.code.Code.let_in.Goals as goal

pub returns-clause-means : goal.returns-clause-means
returns-clause-means c =
    meaning_of-Let c.args.span c.args.locals c.in_ok-body.body
    ∙ ap (λ x. after (definitions c.args.locals.items) (meaning x)) c.in_ok-body.ensures.ok

pub returns-clause-shaped : goal.returns-clause-shaped
returns-clause-shaped c =
    let_shape c.args.span c.args.locals c.in_ok-body.body
    ∙ ap (λ x. Let c.args.span (listed def_shape c.args.locals.items) (shape x)) c.in_ok-body.ensures.ok
