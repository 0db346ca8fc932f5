use Rattle.std.proofs.Common.{length}
use Rattle.rows.proofs.StoreLaws.{then_size, both-within}
use Rattle.interned.specs.Shown.{things, rows_mean}
use Rattle.interned.proofs.interned_rows.InternedRowsMaker.then.Goals as goal

pub add_sub-requires-clause-size : goal.add_sub-requires-clause-size
add_sub-requires-clause-size c =
    let s = c.args.self.now in
    let within = both-within (things s) c.args.first c.args.second c.requires.kinds in
    then_size c.args.first c.args.second (length (things s)) (rows_mean s c.args.first) (rows_mean s c.args.second) c.held_size-size.result c.held_size.result c.then-size.result within.0 within.1 c.ranges.second.fits c.requires.first c.held_size-size.ensures c.held_size.ensures c.then-size.ensures.pushed c.then-size.ensures.shift
