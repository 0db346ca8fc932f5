use Rattle.std.proofs.Common.{arith}
use Rattle.region.proofs.SlotLaws.{length_marks, alike, some_slots}
use Rattle.region.specs.Slots.{marks_in, rows_in}
use Rattle.region.proofs.RegionLaws.{interned_more, first_inside, slice_get-push_end}
use Rattle.region.proofs.interning.Region.intern.Goals as goal

pub put-requires : goal.put-requires
put-requires c =
    let table = c.free_slot.new.table in
    let inside = first_inside (marks_in table.slots.items) c.hash-hash.result c.in_ok-slot.slot (some_slots table.slots.items table.sized) c.in_ok-slot.ensures.first in
    record {
      slot = omega (arith, inside, length_marks table.slots.items);
      row = omega (arith, c.in_ok-slot.ensures.room, table.sized.most);
    }

pub invariant_of-self-2 : goal.invariant_of-self-2
invariant_of-self-2 c =
    let table = c.free_slot.new.table in
    interned_more c.self.inside.store.rows c.push.new.self.rows (marks_in table.slots.items) (rows_in table.slots.items) (marks_in c.put.new.self.slots.items) (rows_in c.put.new.self.slots.items) c.args.row.now c.in_ok-slot.slot c.hash-hash.result c.len-id.result (some_slots table.slots.items table.sized) (alike table.slots.items) c.in_ok-push.ensures.ok c.hash-hash.ensures c.len-id.ensures c.in-Free.ensures.1 c.in_ok-slot.ensures.first c.put.ensures.marks c.put.ensures.rows (omega (arith, c.in_ok-slot.ensures.room, length_marks table.slots.items)) c.free_slot.ensures.rows

pub returns-clause-ok : goal.returns-clause-ok
returns-clause-ok c = rw c.in_ok-push.ensures.ok (slice_get-push_end c.self.inside.store.rows c.args.row.now c.len-id.result c.len-id.ensures)

pub returns-clause-distinct : goal.returns-clause-distinct
returns-clause-distinct c =
    let table = c.free_slot.new.table in
    (interned_more c.self.inside.store.rows c.push.new.self.rows (marks_in table.slots.items) (rows_in table.slots.items) (marks_in c.put.new.self.slots.items) (rows_in c.put.new.self.slots.items) c.args.row.now c.in_ok-slot.slot c.hash-hash.result c.len-id.result (some_slots table.slots.items table.sized) (alike table.slots.items) c.in_ok-push.ensures.ok c.hash-hash.ensures c.len-id.ensures c.in-Free.ensures.1 c.in_ok-slot.ensures.first c.put.ensures.marks c.put.ensures.rows (omega (arith, c.in_ok-slot.ensures.room, length_marks table.slots.items)) c.free_slot.ensures.rows).distinct
