use Rattle.trees.specs.Language.{Tm}
use Rattle.trees.specs.Things.{AContext, ATree}
use Rattle.typed_nodes.proofs.GrowthLaws.{says_later}
use Rattle.literal_types.proofs.GrowthLaws.{extends_extends}
use Rattle.behind_tests.proofs.forms.opened_is.Goals as goal

pub is_form-requires : goal.is_form-requires
is_form-requires c =
    let (G, t, T, says, ctx, ty) = c.requires in
    (G, t, T, says)

pub is_formed-requires : goal.is_formed-requires
is_formed-requires c =
    let (G, t, T, says, ctx, ty) = c.requires in
    let e = c.in_ok-form.ensures in
    (G, t, T, says_later _ _ c.args.typing (Tm G t T) e.extends says, e.literal G t T says c.if-form.true, e.extends.rows.keeps c.args.ctx (AContext G) ctx, e.extends.rows.keeps c.args.ty (ATree T) ty)

pub returns-in_err-formed : goal.returns-in_err-formed
returns-in_err-formed c = extends_extends c.in_ok-form.ensures.extends c.in_err-formed.ensures

pub is_fitting-requires : goal.is_fitting-requires
is_fitting-requires c =
    let (G, t, T, says, ctx, ty) = c.requires in
    let e = c.in_ok-form.ensures in
    let grown = extends_extends e.extends c.in_ok-formed.ensures in
    (G, t, T, says_later _ _ c.args.typing (Tm G t T) grown says, e.literal G t T says c.if-form.true, grown.rows.keeps c.args.ctx (AContext G) ctx, grown.rows.keeps c.args.ty (ATree T) ty)

pub returns-in_err-fitting : goal.returns-in_err-fitting
returns-in_err-fitting c = extends_extends (extends_extends c.in_ok-form.ensures.extends c.in_ok-formed.ensures) c.in_err-fitting.ensures

pub returns-then-formed : goal.returns-then-formed
returns-then-formed c = extends_extends (extends_extends c.in_ok-form.ensures.extends c.in_ok-formed.ensures) c.in_ok-fitting.ensures

pub returns-else-formed : goal.returns-else-formed
returns-else-formed c = extends_extends (extends_extends c.in_ok-form.ensures.extends c.in_ok-formed.ensures) c.in_ok-fitting.ensures
