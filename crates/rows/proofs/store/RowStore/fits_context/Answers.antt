use Rattle.rows.specs.Shown.{store_means}
use Rattle.rows.proofs.MeaningLaws.{name-context, context-name, variable-context, face-context, decides-no}
use Rattle.rows.proofs.store.RowStore.fits_context.Goals as goal

pub returns-in-Name : goal.returns-in-Name
returns-in-Name c =
    let f = store_means c.args.self.now in
    rw c.in-Name.is (
      λ yes. context-name (f c.in-Name.ctx.0) (c.is_context-in-Name.ensures.0 yes),
      λ some. c.is_context-in-Name.ensures.1 (name-context (f c.in-Name.ctx.0) some),
    )

pub returns-else-is_context : goal.returns-else-is_context
returns-else-is_context c =
    let f = store_means c.args.self.now in
    rw c.in-Var.is (decides-no _ _ c.if-is_context.false (λ some. c.is_context.ensures.1 (variable-context (f c.in-Var.ctx.0) (f c.in-Var.ty.0) some)))

pub returns-else-is_context-2 : goal.returns-else-is_context-2
returns-else-is_context-2 c =
    let f = store_means c.args.self.now in
    let off = c.if-is_context-2.false in
    rw c.in-Face.is (decides-no _ _ off (λ some. c.is_context-in-Face.ensures.1 (face-context (f c.in-Face.ctx.0) (f c.in-Face.face.0) some)))
