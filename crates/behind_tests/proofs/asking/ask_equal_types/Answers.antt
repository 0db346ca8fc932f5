use Rattle.std.proofs.Common.{refl}
use Rattle.trees.specs.Language.{Ty, TyEq}
use Rattle.behind_tests.proofs.AskLaws.{ctx_claim, type_claim}
use Rattle.behind_tests.proofs.asking.ask_equal_types.Goals as goal

pub context_is-requires : goal.context_is-requires
context_is-requires c =
    let (G, A, B, says, ctx, left, right) = c.requires in
    (G, (TyEq G A B, says, refl), ctx_claim c.args.book.now c.args.ctx G ctx)

pub left_is-requires : goal.left_is-requires
left_is-requires c =
    let (G, A, B, says, ctx, left, right) = c.requires in
    (Ty G A, Ty G B, (TyEq G A B, says, (refl, refl)), type_claim c.args.book.now c.args.ctx c.args.left G A ctx left)

pub right_is-requires : goal.right_is-requires
right_is-requires c =
    let (G, A, B, says, ctx, left, right) = c.requires in
    (Ty G A, Ty G B, (TyEq G A B, says, (refl, refl)), type_claim c.args.book.now c.args.ctx c.args.right G B ctx right)
