use Rattle.std.proofs.Common.{refl}
use Rattle.trees.specs.Language.{Tm, TmEq}
use Rattle.behind_tests.proofs.AskLaws.{ctx_claim, type_claim, term_claim}
use Rattle.behind_tests.proofs.asking.ask_equal_terms.Goals as goal

pub context_is-requires : goal.context_is-requires
context_is-requires c =
    let (G, a, b, A, says, ctx, left, right, ty) = c.requires in
    (G, (TmEq G a b A, says, refl), ctx_claim c.args.book.now c.args.ctx G ctx)

pub type_is-requires : goal.type_is-requires
type_is-requires c =
    let (G, a, b, A, says, ctx, left, right, ty) = c.requires in
    (G, A, (TmEq G a b A, says, (refl, refl)), type_claim c.args.book.now c.args.ctx c.args.ty G A ctx ty)

pub left_is-requires : goal.left_is-requires
left_is-requires c =
    let (G, a, b, A, says, ctx, left, right, ty) = c.requires in
    (Tm G a A, Tm G b A, (TmEq G a b A, says, (refl, refl)), term_claim c.args.book.now c.args.ctx c.args.left c.args.ty G a A ctx left ty)

pub right_is-requires : goal.right_is-requires
right_is-requires c =
    let (G, a, b, A, says, ctx, left, right, ty) = c.requires in
    (Tm G a A, Tm G b A, (TmEq G a b A, says, (refl, refl)), term_claim c.args.book.now c.args.ctx c.args.right c.args.ty G b A ctx right ty)
