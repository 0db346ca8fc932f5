use Rattle.std.proofs.Common.{◌≤◌, sym, arith}
use Rattle.typed_contexts.specs.Contexts.{depth_of}
use Rattle.typed_contexts.proofs.NameLaws.{is_name-deep, no_name, a_name}
use Rattle.typed_contexts.proofs.place.Places.is_name.Goals as goal

pub returns-then-depth-index : goal.returns-then-depth-index
returns-then-depth-index c = λ b H place.
    let deep : depth_of H ≤ c.args.index = omega (arith, c.depth-depth.ensures.place b H place, c.if-depth-index.true) in
    sym (is_name-deep c.args.index H deep)

pub returns-in-Variable : goal.returns-in-Variable
returns-in-Variable c = λ b H place.
    sym (no_name b c.level.result c.in-Variable.field-0 c.depth-depth.result c.args.index H (c.depth-depth.ensures.place b H place) c.if-depth-index.false c.in-Variable.is (c.level.ensures b H place))

pub returns-in-Name : goal.returns-in-Name
returns-in-Name c = λ b H place.
    sym (a_name b c.level.result c.depth-depth.result c.args.index H (c.depth-depth.ensures.place b H place) c.if-depth-index.false c.in-Name.is (c.level.ensures b H place))
