-- What contracts see of a store of rows.
use Rattle.std.specs.Prelude.{List, slice_get}
use Rattle.trees.specs.Things.{Thing, Meanings}
use Rattle.rows.specs.Held.{things_of}
use Rattle.rows.specs.declared.store.RowStore.{RowStore}

-- what each row means
abbrev pub things : RowStore → List Thing
things s = things_of s.rows.items s.kids.items s.subs.items

abbrev pub store_means : RowStore → Meanings
store_means s = slice_get (things s)
