use Rattle.std.proofs.Common.{arith, refl}
use Rattle.region.proofs.SlotLaws.{length_marks, marks-set, rows-set_same}
use Rattle.region.proofs.table.Table.remove.Goals as goal

pub returns-clause-marks : goal.returns-clause-marks
returns-clause-marks c =
    let slots = c.args.self.now.slots.items in
    let found = c.slot_of-slot.ensures in
    record {
      slot = c.slot_of-slot.result;
      within = omega (arith, found.within, length_marks slots);
      taken = found.taken;
      names = found.names;
      is = marks-set slots c.slot_of-slot.result _ 0 refl;
    }

pub returns-clause-rows : goal.returns-clause-rows
returns-clause-rows c =
    rows-set_same c.args.self.now.slots.items c.slot_of-slot.result _ c.index_mut.result.now c.slot_of-slot.ensures.within c.index_mut.ensures.value refl
