use Rattle.std.proofs.Common.{◌∙◌, sym, ap, arith}
use Rattle.std.proofs.lemmas.List.{take_rest}
use Rattle.side_conditions.specs.Levels.{indices}
use Rattle.side_conditions.specs.Contexts.{context_of}
use Rattle.side_conditions.proofs.ContextLaws.{gathered_var, gathered_name, gathered_face, var_entry, name_entry, inner_below}
use Rattle.side_conditions.proofs.contexts.faces_of.Goals as goal

pub loop-faces-preserved-in-Var : goal.loop-faces-preserved-in-Var
loop-faces-preserved-in-Var g c =
    let f = g.R.Rows.means c.args.rows.now in
    let w = c.loop-faces.invariant.0 in
    let v = var_entry f c.loop-faces.ctx.0 c.in-Var.outer.0 _ w.is c.in-Var.ensures.meaning in
    let below = inner_below c.args.names.now _ _ c.loop-faces.inner (w.names_are ∙ ap indices v.row_is) in
    (gathered_var f (context_of (f c.args.ctx.0)) c.args.names.now c.loop-faces.inner c.loop-faces.ctx.0 c.in-Var.outer.0 _ c.loop-faces.faces.items w c.in-Var.ensures.meaning, omega arith)

pub loop-faces-preserved-in-Name : goal.loop-faces-preserved-in-Name
loop-faces-preserved-in-Name g c =
    let f = g.R.Rows.means c.args.rows.now in
    let w = c.loop-faces.invariant.0 in
    let v = name_entry f c.loop-faces.ctx.0 c.in-Name.outer.0 w.is c.in-Name.ensures.meaning in
    let below = inner_below c.args.names.now _ _ c.loop-faces.inner (w.names_are ∙ ap indices v.row_is) in
    (gathered_name f (context_of (f c.args.ctx.0)) c.args.names.now c.loop-faces.inner c.loop-faces.ctx.0 c.in-Name.outer.0 c.loop-faces.faces.items w c.in-Name.ensures.meaning, omega arith)

pub loop-faces-preserved : goal.loop-faces-preserved
loop-faces-preserved g c =
    let f = g.R.Rows.means c.args.rows.now in (
      gathered_face f (context_of (f c.args.ctx.0)) c.args.names.now c.loop-faces.inner c.loop-faces.ctx.0 c.in-Face.outer.0 c.in-Face.tree.0 c.loop-faces.faces.items c.push.new.self.items c.in_ok-face_or_bottom-in-Face.field-0
          c.loop-faces.invariant.0 c.in-Face.ensures.meaning
          (λ G same. c.in_ok-face_or_bottom-in-Face.ensures G (same ∙ sym (take_rest c.args.names.now c.loop-faces.inner)))
          c.in_ok-push-in-Face.ensures.items,
      c.loop-faces.invariant.1,
    )
