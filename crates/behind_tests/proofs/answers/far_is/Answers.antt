use Rattle.trees.specs.Language.{Ctx}
use Rattle.behind_tests.proofs.AskLaws.{claim_later}
use Rattle.behind_tests.proofs.answers.far_is.Goals as goal

pub concludes-requires : goal.concludes-requires
concludes-requires c =
    let (H, G, d, says, is) = c.requires in
    (Ctx H, Ctx H, c.in_ok-found.ensures.typed H G d says, claim_later c.in_ok-found.ensures.extends c.args.ctx (Ctx H) is)
