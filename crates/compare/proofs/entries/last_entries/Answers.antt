use Rattle.std.proofs.Common.{◌∙◌, sym, ap, arith}
use Rattle.compare.proofs.ContextLaws.{Parts, parts, parts-as, form, other-form, no-variable, no-face, both-nil, next-variable, next-name, next-face}
use Rattle.compare.proofs.entries.last_entries.Given as given
use Rattle.compare.proofs.entries.last_entries.Goals as goal
use Rattle.compare.proofs.entries.last_entries.Goals.{After-context-2}

-- the parts of both rows
left : (g : given.Over) (c : After-context-2 g) → Parts (g.R.Rows.means c.args.rows.now) (g.R.Rows.means c.args.rows.now c.args.left.0) c.context.result
left g c = let f = g.R.Rows.means c.args.rows.now in parts f (f c.args.left.0) c.context.result c.requires.left c.context.ensures.meaning

right : (g : given.Over) (c : After-context-2 g) → Parts (g.R.Rows.means c.args.rows.now) (g.R.Rows.means c.args.rows.now c.args.right.0) c.context-2.result
right g c = let f = g.R.Rows.means c.args.rows.now in parts f (f c.args.right.0) c.context-2.result c.requires.right c.context-2.ensures.meaning

pub returns-in-Nil-Nil : goal.returns-in-Nil-Nil
returns-in-Nil-Nil g c =
    let f = g.R.Rows.means c.args.rows.now in
    let here = (goal.at.returns-in-Nil-Nil g c).After-context-2 in
    let l = parts-as f (f c.args.left.0) c.context.result _ c.in-Nil-Nil.is-0 (left g here) in
    let r = parts-as f (f c.args.right.0) c.context-2.result _ c.in-Nil-Nil.is-1 (right g here) in
    both-nil f c.args.left.0 c.args.right.0 l r

pub returns-in-Var-Var : goal.returns-in-Var-Var
returns-in-Var-Var g c =
    let f = g.R.Rows.means c.args.rows.now in
    let here = (goal.at.returns-in-Var-Var g c).After-context-2 in
    let l = parts-as f (f c.args.left.0) c.context.result _ c.in-Var-Var.is-0 (left g here) in
    let r = parts-as f (f c.args.right.0) c.context-2.result _ c.in-Var-Var.is-1 (right g here) in
    next-variable f c.args.left.0 c.args.right.0 c.in-Var-Var.g c.in-Var-Var.h c.in-Var-Var.a c.in-Var-Var.b l r (rw c.in-Var-Var.is-0 at c.context.ensures.earlier 0 0 (omega arith))

pub returns-in-Face-Face : goal.returns-in-Face-Face
returns-in-Face-Face g c =
    let f = g.R.Rows.means c.args.rows.now in
    let here = (goal.at.returns-in-Face-Face g c).After-context-2 in
    let l = parts-as f (f c.args.left.0) c.context.result _ c.in-Face-Face.is-0 (left g here) in
    let r = parts-as f (f c.args.right.0) c.context-2.result _ c.in-Face-Face.is-1 (right g here) in
    next-face f c.args.left.0 c.args.right.0 c.in-Face-Face.g c.in-Face-Face.h c.in-Face-Face.p c.in-Face-Face.q l r (rw c.in-Face-Face.is-0 at c.context.ensures.earlier 0 0 (omega arith))

pub returns-in-Name-Name : goal.returns-in-Name-Name
returns-in-Name-Name g c =
    let f = g.R.Rows.means c.args.rows.now in
    let here = (goal.at.returns-in-Name-Name g c).After-context-2 in
    let l = parts-as f (f c.args.left.0) c.context.result _ c.in-Name-Name.is-0 (left g here) in
    let r = parts-as f (f c.args.right.0) c.context-2.result _ c.in-Name-Name.is-1 (right g here) in
    next-name f c.args.left.0 c.args.right.0 c.in-Name-Name.g c.in-Name-Name.h l r (rw c.in-Name-Name.is-0 at c.context.ensures.earlier 0 0 (omega arith))

pub returns-in_default-2 : goal.returns-in_default-2
returns-in_default-2 g c =
    let f = g.R.Rows.means c.args.rows.now in
    let here = (goal.at.returns-in_default-2 g c).After-context-2 in
    other-form f (f c.args.left.0) (f c.args.right.0) c.context.result c.context-2.result (left g here) (right g here)
    (λ same. no-variable c.context-2.result c.in_default.not-Var-1 (sym (ap form c.in_default.is-0) ∙ same))

pub returns-in_default-3 : goal.returns-in_default-3
returns-in_default-3 g c =
    let f = g.R.Rows.means c.args.rows.now in
    let here = (goal.at.returns-in_default-3 g c).After-context-2 in
    other-form f (f c.args.left.0) (f c.args.right.0) c.context.result c.context-2.result (left g here) (right g here)
    (λ same. no-face c.context-2.result c.in_default.not-Face-1 (sym (ap form c.in_default.is-0) ∙ same))
