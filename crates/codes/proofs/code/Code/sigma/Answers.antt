use Rattle.std.proofs.Common.{ap, ◌∙◌, map}
use Rattle.translation.specs.Forms.{under}
use Rattle.translation.specs.Terms.{sig}
use Rattle.codes.specs.Codes.{meaning, binder}
use Rattle.codes.proofs.Rows.{meaning_of-Sigma}
use Rattle.codes.specs.Shapes.{shape, of_binder, listed, Sigma}
use Rattle.codes.proofs.ShapeRows.{sigma_shape}
use Rattle.codes.proofs.code.Code.sigma.Goals as goal

pub returns-clause-means : goal.returns-clause-means
returns-clause-means c =
    meaning_of-Sigma c.args.span c.args.binders c.in_ok-body.body
    ∙ ap (λ x. under sig (map binder c.args.binders.items) (meaning x)) c.in_ok-body.ensures.ok

pub returns-clause-shaped : goal.returns-clause-shaped
returns-clause-shaped c =
    sigma_shape c.args.span c.args.binders c.in_ok-body.body
    ∙ ap (λ x. Sigma c.args.span (listed of_binder c.args.binders.items) (shape x)) c.in_ok-body.ensures.ok
