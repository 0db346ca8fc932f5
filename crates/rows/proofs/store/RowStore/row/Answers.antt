use Rattle.std.proofs.Common.{◌<◌, length, arith, refl}
use Rattle.std.proofs.lemmas.Option.{slice_get_read}
use Rattle.rows.specs.Held.{thing_of}
use Rattle.rows.proofs.TableLaws.{length-built}
use Rattle.rows.proofs.store.RowStore.row.Goals as goal

pub index-requires : goal.index-requires
index-requires c =
    let s = c.args.self.now in
    omega (arith, c.requires, s.rows.ok.0, length-built (thing_of s.kids.items s.subs.items) s.rows.items)

pub returns : goal.returns
returns c =
    let s = c.args.self.now in
    let within : c.args.at < length s.rows.items = omega (arith, c.requires, length-built (thing_of s.kids.items s.subs.items) s.rows.items) in
    slice_get_read s.rows.items (length s.rows.items) c.args.at c.index.result.now refl within c.index.ensures
