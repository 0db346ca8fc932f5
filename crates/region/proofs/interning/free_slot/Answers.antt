use Rattle.std.proofs.Common.{length, arith}
use Rattle.region.proofs.SlotLaws.{length_marks}
use Rattle.region.specs.Slots.{marks_in, rows_in}
use Rattle.region.specs.Interned.{hashes}
use Rattle.region.proofs.TableLaws.{has_free}
use Rattle.region.proofs.interning.free_slot.Goals as goal

pub first_free-requires : goal.first_free-requires
first_free-requires c =
    let rows = c.args.store.now.rows in
    let are = c.make_room.ensures.rows in
    has_free (hashes rows) (marks_in c.make_room.new.table.slots.items) (rows_in c.make_room.new.table.slots.items) (length rows) are.table (omega (arith, c.in_ok-make_room.ensures.ok, length_marks c.make_room.new.table.slots.items))
