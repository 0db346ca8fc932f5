use Rattle.std.proofs.Common.{◌∙◌, ap₂, Some}
use Rattle.trees.specs.Trees.{Var, id}
use Rattle.trees.specs.Judgements.{WithVar, trees}
use Rattle.trees.specs.Language.{Tm, Ty}
use Rattle.substitution.proofs.ThenLaws.{apply-id}
use Rattle.rules.specs.Table.{weakened}
use Rattle.typed_nodes.proofs.GrowthLaws.{says_later}
use Rattle.literal_types.proofs.GrowthLaws.{extends_extends}
use Rattle.behind_tests.proofs.telescope.last.Goals as goal

pub identity-requires : goal.identity-requires
identity-requires c =
    let (G, A, ctx, ty) = c.requires in
    (WithVar G A, ctx)

pub variable-requires : goal.variable-requires
variable-requires c =
    let (G, A, ctx, ty) = c.requires in
    (WithVar G A, G, id, A, c.in_ok-here.ensures.typed (WithVar G A) ctx, says_later _ _ c.args.ty (Ty G A) c.in_ok-here.ensures.extends ty)

pub returns-in_err-variable-clause-extends : goal.returns-in_err-variable-clause-extends
returns-in_err-variable-clause-extends c = extends_extends c.in_ok-here.ensures.extends c.in_err-variable.ensures.extends

pub returns-clause-extends : goal.returns-clause-extends
returns-clause-extends c = extends_extends c.in_ok-here.ensures.extends c.in_ok-variable.ensures.extends

pub returns-clause-typed : goal.returns-clause-typed
returns-clause-typed c = λ G A ctx ty.
    c.in_ok-variable.ensures.typed (WithVar G A) G id A (c.in_ok-here.ensures.typed (WithVar G A) ctx) (says_later _ _ c.args.ty (Ty G A) c.in_ok-here.ensures.extends ty)
    ∙ ap₂ (λ t T. Some (Tm (WithVar G A) t T)) (apply-id (Var 0)) (apply-id (weakened trees A))
