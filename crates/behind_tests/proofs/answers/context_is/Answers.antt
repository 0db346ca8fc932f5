use Rattle.trees.specs.Language.{Ctx}
use Rattle.behind_tests.proofs.AskLaws.{claim_later}
use Rattle.behind_tests.proofs.answers.context_is.Goals as goal

pub concludes-requires : goal.concludes-requires
concludes-requires c =
    let (G, is_in, is) = c.requires in
    (Ctx G, Ctx G, c.in_ok-found.ensures.typed G is_in, claim_later c.in_ok-found.ensures.extends c.args.ctx (Ctx G) is)
