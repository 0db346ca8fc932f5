use Rattle.behind_tests.proofs.AskLaws.{claim_later}
use Rattle.behind_tests.proofs.answers.right_is.Goals as goal

pub concludes-requires : goal.concludes-requires
concludes-requires c =
    let (left, right, equates, is) = c.requires in
    (right, right, c.in_ok-found.ensures.typed left right equates, claim_later c.in_ok-found.ensures.extends c.args.side right is)
