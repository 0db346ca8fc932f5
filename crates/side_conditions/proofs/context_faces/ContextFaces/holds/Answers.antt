use Rattle.side_conditions.specs.Shapes.{tree_of}
use Rattle.side_conditions.specs.Contexts.{context_of}
use Rattle.side_conditions.specs.Readings.{IsFaceOf}
use Rattle.side_conditions.proofs.ContextLaws.{face_read}
use Rattle.side_conditions.proofs.HoldsLaws.{holds_exact}
use Rattle.side_conditions.proofs.context_faces.ContextFaces.holds.Goals as goal

pub returns-in_ok-holds_under-in-Some : goal.returns-in_ok-holds_under-in-Some
returns-in_ok-holds_under-in-Some g c =
    let f = g.R.Rows.means c.args.rows.now in
    let G = context_of (f c.args.self.now.ctx.0) in
    let t = tree_of (f c.args.tree.0) in
    let r : IsFaceOf G t c.in-Some.face = rw c.in-Some.is at c.in_ok-face.ensures in
    let exact = holds_exact G c.args.self.now.faces.items c.requires.stands.faces_are t c.in-Some.face (face_read G t c.in-Some.face r) in
    let under = rw c.deref.ensures.value at c.in_ok-holds_under-in-Some.ensures in
    (λ h. (r.is_one, exact.0 (under.0 h)), λ both. under.1 (exact.1 both.1))
