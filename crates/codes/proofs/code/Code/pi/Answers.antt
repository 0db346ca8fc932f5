use Rattle.std.proofs.Common.{ap, ◌∙◌, map}
use Rattle.translation.specs.Forms.{under}
use Rattle.translation.specs.Terms.{pi}
use Rattle.codes.specs.Codes.{meaning, binder}
use Rattle.codes.proofs.Rows.{meaning_of-Pi}
use Rattle.codes.specs.Shapes.{shape, of_binder, listed, Pi}
use Rattle.codes.proofs.ShapeRows.{pi_shape}
use Rattle.codes.proofs.code.Code.pi.Goals as goal

pub returns-clause-means : goal.returns-clause-means
returns-clause-means c =
    meaning_of-Pi c.args.span c.args.binders c.in_ok-body.body
    ∙ ap (λ x. under pi (map binder c.args.binders.items) (meaning x)) c.in_ok-body.ensures.ok

pub returns-clause-shaped : goal.returns-clause-shaped
returns-clause-shaped c =
    pi_shape c.args.span c.args.binders c.in_ok-body.body
    ∙ ap (λ x. Pi c.args.span (listed of_binder c.args.binders.items) (shape x)) c.in_ok-body.ensures.ok
