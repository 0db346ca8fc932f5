use Rattle.std.proofs.Common.{refl}
use Rattle.trees.specs.Language.{Tm}
use Rattle.behind_tests.proofs.AskLaws.{ctx_claim, type_claim, term_claim}
use Rattle.behind_tests.proofs.asking.ask_term.Goals as goal

pub context_is-requires : goal.context_is-requires
context_is-requires c =
    let (G, a, A, says, ctx, term, ty) = c.requires in
    (G, (Tm G a A, says, refl), ctx_claim c.args.book.now c.args.ctx G ctx)

pub type_is-requires : goal.type_is-requires
type_is-requires c =
    let (G, a, A, says, ctx, term, ty) = c.requires in
    (G, A, (Tm G a A, says, (refl, refl)), type_claim c.args.book.now c.args.ctx c.args.ty G A ctx ty)

pub anchored_is-requires : goal.anchored_is-requires
anchored_is-requires c =
    let (G, a, A, says, ctx, term, ty) = c.requires in
    (G, a, A, says, term_claim c.args.book.now c.args.ctx c.args.term c.args.ty G a A ctx term ty)
