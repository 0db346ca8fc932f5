use Rattle.std.proofs.Common.{arith}
use Rattle.literal_types.proofs.WeightLaws.{one_earlier}
use Rattle.literal_terms.proofs.origins.converted.Goals as goal

pub type_row-requires : goal.type_row-requires
type_row-requires c =
    let (K, t, R, S, says, typed, equal, less) = c.requires in
    (K, t, R, typed)

pub type_row-requires-2 : goal.type_row-requires-2
type_row-requires-2 c =
    let (K, t, R, S, says, typed, equal, less) = c.requires in
    (K, t, S, says)

pub returns-then-type_row-clause-less : goal.returns-then-type_row-clause-less
returns-then-type_row-clause-less c =
    let (K, t, R, S, says, typed, equal, less) = c.requires in
    let more = one_earlier c.args.term c.args.node less in
    omega (arith, more)

pub returns-clause-less : goal.returns-clause-less
returns-clause-less c =
    let (K, t, R, S, says, typed, equal, less) = c.requires in
    let more = one_earlier c.args.term c.args.node less in
    omega (arith, more)
