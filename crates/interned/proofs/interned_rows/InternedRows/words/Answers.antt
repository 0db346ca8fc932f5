use Rattle.std.proofs.Common.{arith}
use Rattle.std.proofs.lemmas.Option.{slice_get_within}
use Rattle.rows.proofs.MeaningLaws.{is_some-value}
use Rattle.rows.proofs.TableLaws.{length-built}
use Rattle.interned.specs.Coded.{thing_of}
use Rattle.interned.specs.Shown.{things, rows_mean}
use Rattle.interned.proofs.CodedLaws.{row_there}
use Rattle.interned.proofs.interned_rows.InternedRows.words.Goals as goal

pub row-requires : goal.row-requires
row-requires c =
    let s = c.args.self.now in
    let x = is_some-value (rows_mean s c.args.row) c.requires in
    omega (arith, slice_get_within (things s) c.args.row x.0 x.1, length-built thing_of s.region.rows)

pub returns-clause-row : goal.returns-clause-row
returns-clause-row c = let s = c.args.self.now in row_there s.region.rows s.coded c.args.row c.row.result.now c.row.ensures
