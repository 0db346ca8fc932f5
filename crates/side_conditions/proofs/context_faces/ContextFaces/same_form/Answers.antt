use Rattle.side_conditions.specs.Shapes.{tree_of}
use Rattle.side_conditions.specs.Contexts.{context_of}
use Rattle.side_conditions.specs.Readings.{IsFormOf}
use Rattle.side_conditions.proofs.context_faces.ContextFaces.same_form.Goals as goal

pub returns-clause-same : goal.returns-clause-same
returns-clause-same g c =
    let f = g.R.Rows.means c.args.rows.now in
    let G = context_of (f c.args.self.now.ctx.0) in
    let s = tree_of (f c.args.left.0) in
    let t = tree_of (f c.args.right.0) in
    let l : IsFormOf G s c.in-Some.left = rw c.in-Some.is at c.in_ok-left.ensures in
    let r : IsFormOf G t c.in-Some-2.right = rw c.in-Some-2.is at c.in_ok-right.ensures in
    c.in_ok-same.ensures.same f c.requires.stands s t l r
