use Rattle.std.proofs.Common.{arith, ◌∙◌}
use Rattle.region.proofs.SlotLaws.{alike}
use Rattle.region.specs.Slots.{marks_in, rows_in}
use Rattle.region.specs.Interned.{hashes}
use Rattle.region.proofs.TableLaws.{has_free}
use Rattle.region.proofs.RegionLaws.{table_more}
use Rattle.region.proofs.interning.larger_table.Goals as goal

pub first_free-slot-requires : goal.first_free-slot-requires
first_free-slot-requires c =
    has_free (hashes c.args.store.now.rows) (marks_in c.loop-id.table.slots.items) (rows_in c.loop-id.table.slots.items) c.loop-id.id c.loop-id.invariant.1 (omega (arith, c.loop-id.invariant.0, c.next_power_of_two-size.ensures.lower_bound))

pub loop-id-preserved : goal.loop-id-preserved
loop-id-preserved c =
    let more = table_more c.args.store.now.rows (marks_in c.loop-id.table.slots.items) (rows_in c.loop-id.table.slots.items) (marks_in c.put.new.self.slots.items) (rows_in c.put.new.self.slots.items) c.row.result.now c.loop-id.id c.first_free-slot.result c.hash-hash.result (omega (arith, c.first_free-slot.ensures.within)) (alike c.loop-id.table.slots.items) c.row.ensures c.hash-hash.ensures c.first_free-slot.ensures.first c.put.ensures.marks c.put.ensures.rows c.loop-id.invariant.1 in
    (more.0 ∙ c.loop-id.invariant.0, more.1)
