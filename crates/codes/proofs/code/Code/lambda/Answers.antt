use Rattle.std.proofs.Common.{ap, ◌∙◌, map}
use Rattle.translation.specs.Forms.{under}
use Rattle.translation.specs.Terms.{lam}
use Rattle.codes.specs.Codes.{meaning, binder}
use Rattle.codes.proofs.Rows.{meaning_of-Lambda}
use Rattle.codes.specs.Shapes.{shape, of_binder, listed, lambda}
use Rattle.codes.proofs.ShapeRows.{lambda_shape, some_items}
use Rattle.codes.proofs.code.Code.lambda.Goals as goal

pub returns-clause-means : goal.returns-clause-means
returns-clause-means c =
    meaning_of-Lambda c.args.span c.args.binders c.in_ok-body.body
    ∙ ap (λ x. under lam (map binder c.args.binders.items) (meaning x)) c.in_ok-body.ensures.ok

pub returns-clause-shaped : goal.returns-clause-shaped
returns-clause-shaped c =
    lambda_shape c.args.span c.args.binders c.in_ok-body.body (some_items c.args.binders.items c.args.binders.len c.args.binders.ok.0 c.if-is_empty.ensures)
    ∙ ap (λ x. lambda c.args.span (listed of_binder c.args.binders.items) (shape x)) c.in_ok-body.ensures.ok
