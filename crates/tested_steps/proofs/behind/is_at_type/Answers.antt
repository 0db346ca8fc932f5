use Rattle.std.proofs.Common.{ap}
use Rattle.trees.specs.Claims.{form_of}
use Rattle.tested_steps.proofs.ClaimLaws.{equation_at, term_at}
use Rattle.tested_steps.proofs.behind.is_at_type.Goals as goal

pub returns-in-Tm : goal.returns-in-Tm
returns-in-Tm c = λ yes.
    let some = c.is_node.ensures.concludes.0 c.if-not-is_node.false in
    term_at c.args.book.now c.args.node c.conclusion.result (some, c.conclusion.ensures, ap form_of c.in-Tm.is)

pub returns-in-TmEq : goal.returns-in-TmEq
returns-in-TmEq c = λ yes.
    let some = c.is_node.ensures.concludes.0 c.if-not-is_node.false in
    equation_at c.args.book.now c.args.node c.conclusion.result (some, c.conclusion.ensures, ap form_of c.in-TmEq.is)
