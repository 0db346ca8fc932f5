use Rattle.std.proofs.Common.{refl}
use Rattle.trails.specs.declared.station.Sort.TheVariants as sort
use Rattle.trails.specs.Stations.{station}
use Rattle.trails.proofs.follow.begun.Goals as goal

pub returns : goal.returns
returns c =
    let left = c.is_of_kind.ensures.0 c.if-not-is_of_kind.false in
    let right = c.is_of_kind-else-not-is_of_kind.ensures.0 c.if-not-is_of_kind-2.false in
    let ctx = c.is_of_kind-2.ensures.0 c.if-not-is_of_kind-3.false in (
      station ctx.0 left.0 right.0 sort.Term,
      record { ctx_is = ctx.1; left_is = left.1; right_is = right.1; is = refl },
      record { ctx = ctx.1; left = left.1; right = right.1; is = refl },
    )
