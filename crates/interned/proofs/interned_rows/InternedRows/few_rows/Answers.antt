use Rattle.std.proofs.Common.{arith}
use Rattle.rows.proofs.TableLaws.{length-built}
use Rattle.interned.specs.Coded.{thing_of}
use Rattle.interned.proofs.interned_rows.InternedRows.few_rows.Goals as goal

pub returns : goal.returns
returns c =
    let few = c.len-len.ensures.few in
    let count = c.len-len.ensures.count in
    omega (arith, few, count, length-built thing_of c.args.self.now.region.rows)
