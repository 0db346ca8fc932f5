use Rattle.std.proofs.Common.{ap}
use Rattle.trees.specs.Claims.{form_of}
use Rattle.tested_steps.proofs.ClaimLaws.{term_in, terms_in, type_in, types_in}
use Rattle.tested_steps.proofs.behind.is_in_context.Goals as goal

pub returns-in-Ty : goal.returns-in-Ty
returns-in-Ty c = λ yes.
    let some = c.is_node.ensures.concludes.0 c.if-not-is_node.false in
    type_in c.args.book.now c.args.node c.conclusion.result (some, c.conclusion.ensures, ap form_of c.in-Ty.is)

pub returns-in-TyEq : goal.returns-in-TyEq
returns-in-TyEq c = λ yes.
    let some = c.is_node.ensures.concludes.0 c.if-not-is_node.false in
    types_in c.args.book.now c.args.node c.conclusion.result (some, c.conclusion.ensures, ap form_of c.in-TyEq.is)

pub returns-in-Tm : goal.returns-in-Tm
returns-in-Tm c = λ yes.
    let some = c.is_node.ensures.concludes.0 c.if-not-is_node.false in
    term_in c.args.book.now c.args.node c.conclusion.result (some, c.conclusion.ensures, ap form_of c.in-Tm.is)

pub returns-in-TmEq : goal.returns-in-TmEq
returns-in-TmEq c = λ yes.
    let some = c.is_node.ensures.concludes.0 c.if-not-is_node.false in
    terms_in c.args.book.now c.args.node c.conclusion.result (some, c.conclusion.ensures, ap form_of c.in-TmEq.is)
