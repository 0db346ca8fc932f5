use Rattle.std.proofs.Common.{◌∙◌}
use Rattle.recipe_runner.proofs.BuildLaws.{some-is}
use Rattle.typed_nodes.proofs.TypeLaws.{is_node}
use Rattle.behind_tests.proofs.answers.concludes.Goals as goal

pub conclusion-found-requires : goal.conclusion-found-requires
conclusion-found-requires c =
    let (I, J, says, is) = c.requires in
    is_node c.args.book.now c.args.node I says

pub same_claim-requires-clause-left : goal.same_claim-requires-clause-left
same_claim-requires-clause-left c =
    let (I, J, says, is) = c.requires in
    some-is _ I (c.conclusion-found.ensures ∙ says)

pub same_claim-requires-clause-right : goal.same_claim-requires-clause-right
same_claim-requires-clause-right c =
    let (I, J, says, is) = c.requires in
    some-is _ J is
