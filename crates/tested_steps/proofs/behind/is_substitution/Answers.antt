use Rattle.std.proofs.Common.{ap}
use Rattle.trees.specs.Claims.{form_of}
use Rattle.tested_steps.proofs.ClaimLaws.{substitution_said}
use Rattle.tested_steps.proofs.behind.is_substitution.Goals as goal

pub returns-in-Sb : goal.returns-in-Sb
returns-in-Sb c = λ yes.
    let some = c.is_node.ensures.concludes.0 c.if-not-is_node.false in
    substitution_said c.args.book.now c.args.node c.conclusion.result (some, c.conclusion.ensures, ap form_of c.in-Sb.is)
