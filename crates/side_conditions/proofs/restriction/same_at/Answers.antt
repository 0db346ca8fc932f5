use Rattle.std.proofs.Common.{sym, ◌∙◌}
use Rattle.side_conditions.proofs.SameLaws.{same_restricted, same_unrestricted, none_of}
use Rattle.side_conditions.proofs.restriction.same_at.Goals as goal

pub returns-in_ok-right-in-Some : goal.returns-in_ok-right-in-Some
returns-in_ok-right-in-Some c =
    same_restricted c.args.conj.now c.in-Some.first.now c.in-Some.rest.now c.args.left.now c.args.right.now c.in_ok-left-in-Some.left c.in_ok-right-in-Some.right c.same.result
    (sym c.elements.ensures.value ∙ c.in-Some.ensures.cases.0) c.in_ok-left-in-Some.ensures c.in_ok-right-in-Some.ensures c.same.ensures.values

pub returns-in-None : goal.returns-in-None
returns-in-None c =
    same_unrestricted c.args.conj.now c.args.left.now c.args.right.now c.same-in-None.result
    (sym c.elements.ensures.value ∙ none_of c.elements.result.now c.in-None.ensures.cases) c.same-in-None.ensures.values
