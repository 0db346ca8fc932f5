use Rattle.std.proofs.Common.{refl, subst}
use Rattle.std.specs.List.{All}
use Rattle.faces.specs.Faces.{IsConsistent}
use Rattle.side_conditions.specs.Contexts.{context_of, IsMeetOf}
use Rattle.side_conditions.proofs.SameLaws.{same_at_ends, same_everywhere}
use Rattle.side_conditions.proofs.context_faces.ContextFaces.same.Goals as goal

pub returns-clause-same : goal.returns-clause-same
returns-clause-same c = λ f stands r s l t.
    let G = context_of (f c.args.self.now.ctx.0) in
    let met : IsMeetOf c.args.self.now.faces.items c.in_ok-met.met = rw c.deref.ensures.value at c.in_ok-met.ensures in
    let exact = same_at_ends G c.args.self.now.faces.items stands.faces_are c.in_ok-met.met met r s c.args.left.now c.args.right.now l t (subst (All IsConsistent) c.met.view_is c.met.invariant) in
    (λ h. exact.0 (c.in_ok-same.ensures.0 h), λ h. c.in_ok-same.ensures.1 (exact.1 h))

pub returns-then-same-clause-same : goal.returns-then-same-clause-same
returns-then-same-clause-same c = λ f stands r s l t. (
  λ h. same_everywhere (context_of (f c.args.self.now.ctx.0)) r s c.args.left.now c.args.right.now l t (c.same.ensures.lists.0 c.if-same.true),
  λ h. refl,
)
