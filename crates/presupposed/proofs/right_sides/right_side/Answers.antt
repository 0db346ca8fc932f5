use Rattle.std.proofs.Common.{◌∷◌, []}
use Rattle.trees.specs.Language.{Tm, TmEq}
use Rattle.book.specs.Shown.{book_concludes}
use Rattle.presupposed.proofs.FillLaws.{first_said}
use Rattle.presupposed.proofs.RuleLaws.{unfolded-plain}
use Rattle.presupposed.proofs.StepLaws.{unfolded_rule, unfolded_use}
use Rattle.presupposed.proofs.right_sides.right_side.Goals as goal

pub made_by-step-requires : goal.made_by-step-requires
made_by-step-requires c =
    let (G, l, r, A, u, ctx) = c.requires in
    (TmEq G l r A, u.says)

pub unfold-requires-clause-of : goal.unfold-requires-clause-of
unfold-requires-clause-of c =
    let (G, l, r, A, u, ctx) = c.requires in
    unfolded_rule c.args.book.now c.args.node c.made_by-step.result G l r A u c.made_by-step.ensures.made

pub unfold-requires-clause-right : goal.unfold-requires-clause-right
unfold-requires-clause-right c =
    let (G, l, r, A, u, ctx) = c.requires in
    let b = c.args.book.now in
    let step = c.made_by-step.result in
    let of = unfolded_rule b c.args.node step G l r A u c.made_by-step.ensures.made in
    let use_is = unfolded_use b c.args.ctx c.args.node step G l r A (c.made_by-step.ensures.right (TmEq G l r A) u.says) ctx in
    c.laws_of_unfoldings.ensures.may_use b c.args.ctx step (TmEq G l r A) (unfolded-plain step.rule of) use_is

pub returns-clause-typed : goal.returns-clause-typed
returns-clause-typed c = λ G l r A u ctx.
    let b = c.args.book.now in
    let step = c.made_by-step.result in
    let new = c.«unfold».new.book in
    let of = unfolded_rule b c.args.node step G l r A u c.made_by-step.ensures.made in
    let use_is = unfolded_use b c.args.ctx c.args.node step G l r A (c.made_by-step.ensures.right (TmEq G l r A) u.says) ctx in
    let unfolded = c.in_ok-unfolded.unfolded in
    let both = c.laws_of_unfoldings.ensures.gives b new c.args.ctx step unfolded (TmEq G l r A) (unfolded-plain step.rule of) use_is c.in_ok-unfolded.ensures.gives in
    first_said (book_concludes new) (unfolded.typing.0 ∷ unfolded.equal.0 ∷ []) (Tm G r A) (TmEq G l r A ∷ []) both
