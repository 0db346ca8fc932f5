use Rattle.closures.specs.Environments.{listed}
use Rattle.closures.specs.Shown.{lists}
use Rattle.std.proofs.Common.{Some, sym, ◌∙◌, ap}
use Rattle.side_conditions.proofs.OpeningLaws.{made_over, nullary_over, unary_over, binary_over, other_over}
use Rattle.side_conditions.proofs.opening.shape_over.Goals as goal

pub returns-in-None : goal.returns-in-None
returns-in-None c = λ f t e.
    other_over f (listed (lists c.args.environments.now) c.args.environment) c.args.op c.args.kids.now c.args.depth t (sym c.in-None.ensures)
    (made_over f (listed (lists c.args.environments.now) c.args.environment) c.args.op c.args.kids.now t e)

pub returns-in-Some-Nullary : goal.returns-in-Some-Nullary
returns-in-Some-Nullary c = λ f t e.
    nullary_over f (lists c.args.environments.now) c.args.op c.in-Some-Nullary.nullary c.args.kids.now c.args.environment c.args.depth t (sym c.in-Some-Nullary.ensures ∙ ap Some c.in-Some-Nullary.field-0-is)
    (made_over f (listed (lists c.args.environments.now) c.args.environment) c.args.op c.args.kids.now t e)

pub returns-in-Some-Unary : goal.returns-in-Some-Unary
returns-in-Some-Unary c = λ f t e.
    unary_over f (lists c.args.environments.now) c.args.op c.in-Some-Unary.unary c.args.kids.now c.args.environment c.args.depth t c.kid_at-kid.result (sym c.in-Some-Unary.ensures ∙ ap Some c.in-Some-Unary.field-0-is)
    (made_over f (listed (lists c.args.environments.now) c.args.environment) c.args.op c.args.kids.now t e)
    c.kid_at-kid.ensures

pub returns-in-Some-Binary : goal.returns-in-Some-Binary
returns-in-Some-Binary c = λ f t e.
    binary_over f (lists c.args.environments.now) c.args.op c.in-Some-Binary.binary c.args.kids.now c.args.environment c.args.depth t c.kid_at-left.result c.kid_at-right.result (sym c.in-Some-Binary.ensures ∙ ap Some c.in-Some-Binary.field-0-is)
    (made_over f (listed (lists c.args.environments.now) c.args.environment) c.args.op c.args.kids.now t e)
    c.kid_at-left.ensures c.kid_at-right.ensures
