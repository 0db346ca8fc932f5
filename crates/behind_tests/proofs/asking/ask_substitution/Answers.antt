use Rattle.behind_tests.proofs.AskLaws.{ctx_claim}
use Rattle.behind_tests.proofs.asking.ask_substitution.Goals as goal

pub far_is-requires : goal.far_is-requires
far_is-requires c =
    let (H, G, d, says, far, home) = c.requires in
    (H, G, d, says, ctx_claim c.args.book.now c.args.far H far)

pub home_is-requires : goal.home_is-requires
home_is-requires c =
    let (H, G, d, says, far, home) = c.requires in
    (H, G, d, says, ctx_claim c.args.book.now c.args.home G home)
