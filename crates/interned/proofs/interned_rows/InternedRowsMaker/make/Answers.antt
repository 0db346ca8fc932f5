use Rattle.std.proofs.Common.{arith}
use Rattle.trees.proofs.OperatorLaws.{kids_of-most}
use Rattle.rows.proofs.MeaningLaws.{made-count}
use Rattle.interned.specs.Shown.{rows_mean}
use Rattle.interned.proofs.interned_rows.InternedRowsMaker.make.Goals as goal

pub add_term-requires-clause-fit : goal.add_term-requires-clause-fit
add_term-requires-clause-fit c =
    omega (arith, made-count (rows_mean c.args.self.now) c.args.op c.args.kids.now c.requires, kids_of-most c.args.op)
