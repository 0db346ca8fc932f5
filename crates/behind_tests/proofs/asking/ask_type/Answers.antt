use Rattle.std.proofs.Common.{refl}
use Rattle.trees.specs.Language.{Ty}
use Rattle.behind_tests.proofs.AskLaws.{ctx_claim}
use Rattle.behind_tests.proofs.asking.ask_type.Goals as goal

pub context_is-requires : goal.context_is-requires
context_is-requires c =
    let (G, A, says, ctx) = c.requires in
    (G, (Ty G A, says, refl), ctx_claim c.args.book.now c.args.ctx G ctx)
