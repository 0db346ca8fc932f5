use Rattle.std.proofs.Common.{length, ap, arith}
use Rattle.rows.proofs.TableLaws.{length-built}
use Rattle.interned.specs.Coded.{thing_of}
use Rattle.book.proofs.kernel.Book.few_rows.Goals as goal

pub returns : goal.returns
returns c =
    let few = c.few_rows.ensures in
    let same = ap (λ b. length b.rows) c.self.view_is in
    omega (arith, few, same, length-built thing_of c.self.inside.rows.region.rows)
