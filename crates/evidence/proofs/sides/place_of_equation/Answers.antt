use Rattle.std.proofs.Common.{subst, sym}
use Rattle.rows.specs.Views.{IsContext}
use Rattle.rows.specs.declared.views.CtxId.{CtxId}
use Rattle.book.specs.Shown.{book_means}
use Rattle.evidence.proofs.GrowthLaws.{kept_context}
use Rattle.evidence.proofs.LineLaws.{place_later}
use Rattle.evidence.proofs.sides.place_of_equation.Goals as goal

pub place_of-requires : goal.place_of-requires
place_of-requires c =
    let side = c.right_side.ensures c.in-Some.side c.in-Some.is in
    (side.context, side.context_is)

pub returns-in_ok-place_of-in-Some-clause-context : goal.returns-in_ok-place_of-in-Some-clause-context
returns-in_ok-place_of-in-Some-clause-context c = λ p is.
    let side = c.right_side.ensures c.in-Some.side c.in-Some.is in
    subst (λ (ctx : CtxId). IsContext (book_means c.place_of.new.book ctx.0)) (sym (c.in_ok-place_of-in-Some.ensures.ctx p is)) (kept_context c.place_of.ensures.extends c.in-Some.side.ctx.0 (side.context, side.context_is))

pub returns-in_ok-place_of-in-Some-clause-place : goal.returns-in_ok-place_of-in-Some-clause-place
returns-in_ok-place_of-in-Some-clause-place c = λ p is.
    let side = c.right_side.ensures c.in-Some.side c.in-Some.is in
    place_later c.args.book.now c.place_of.new.book c.place_of.ensures.extends c.in-Some.side.ctx p (side.context, side.context_is) (c.in_ok-place_of-in-Some.ensures.ctx p is) (c.in_ok-place_of-in-Some.ensures.place p is)
