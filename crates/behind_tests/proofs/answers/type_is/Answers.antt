use Rattle.trees.specs.Language.{Ty}
use Rattle.behind_tests.proofs.AskLaws.{claim_later}
use Rattle.behind_tests.proofs.answers.type_is.Goals as goal

pub concludes-requires : goal.concludes-requires
concludes-requires c =
    let (G, A, is_at, is) = c.requires in
    (Ty G A, Ty G A, c.in_ok-found.ensures.typed G A is_at, claim_later c.in_ok-found.ensures.extends c.args.ty (Ty G A) is)
