use Rattle.side_conditions.specs.Contexts.{context_of}
use Rattle.side_conditions.proofs.ContextLaws.{face_read, none_read}
use Rattle.side_conditions.proofs.HoldsLaws.{holds_exact}
use Rattle.side_conditions.proofs.context_faces.ContextFaces.make_true.Goals as goal

pub returns-in_ok-holds_under-in-Some : goal.returns-in_ok-holds_under-in-Some
returns-in_ok-holds_under-in-Some c = λ f stands t is.
    let G = context_of (f c.args.self.now.ctx.0) in
    let r = rw c.in-Some.is at is in
    let exact = holds_exact G c.args.self.now.faces.items stands.faces_are t c.in-Some.face.now (face_read G t c.in-Some.face.now r) in
    let under = rw c.deref.ensures.value at c.in_ok-holds_under-in-Some.ensures in
    (λ h. exact.0 (under.0 h), λ h. under.1 (exact.1 h))

pub returns-in_ok-holds_under-in-None : goal.returns-in_ok-holds_under-in-None
returns-in_ok-holds_under-in-None c = λ f stands t is.
    let G = context_of (f c.args.self.now.ctx.0) in
    let none = rw c.in-None.is at is in
    let exact = holds_exact G c.args.self.now.faces.items stands.faces_are t c.in_ok-bottom-in-None.field-0 (none_read G t c.in_ok-bottom-in-None.field-0 none c.in_ok-bottom-in-None.ensures) in
    let under = rw c.deref-in-None.ensures.value at c.in_ok-holds_under-in-None.ensures in
    (λ h. exact.0 (under.0 h), λ h. under.1 (exact.1 h))
