use Rattle.std.proofs.Common.{ap}
use Rattle.trees.specs.Claims.{form_of}
use Rattle.tested_steps.proofs.ClaimLaws.{type_said}
use Rattle.tested_steps.proofs.behind.is_type.Goals as goal

pub returns-in-Ty : goal.returns-in-Ty
returns-in-Ty c = λ yes.
    let some = c.is_node.ensures.concludes.0 c.if-not-is_node.false in
    type_said c.args.book.now c.args.node c.conclusion.result (some, c.conclusion.ensures, ap form_of c.in-Ty.is)
