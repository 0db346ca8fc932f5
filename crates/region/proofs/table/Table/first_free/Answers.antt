use Rattle.std.proofs.Common.{◌<◌, get_or, arith, sym, ◌∙◌}
use Rattle.region.proofs.SlotLaws.{mark_read}
use Rattle.region.specs.Slots.{marks_in}
use Rattle.region.proofs.TableLaws.{comes_to}
use Rattle.region.proofs.table.Table.first_free.Goals as goal

pub returns-then-index-eq-FREE-clause-first : goal.returns-then-index-eq-FREE-clause-first
returns-then-index-eq-FREE-clause-first c =
    record {
      at = c.loop-at.at;
      within = omega arith;
      is = c.searched-slot.ensures.is;
      free = sym (mark_read c.args.self.now.slots.items c.searched-slot.result c.index.result.now c.searched-slot.ensures.within c.index.ensures) ∙ c.if-index-eq-FREE.true;
      passed = c.loop-at.invariant;
    }

pub unreachable-requires : goal.unreachable-requires
unreachable-requires c =
    let marks = marks_in c.args.self.now.slots.items in
    let taken : 0 < get_or marks c.requires.0 0 =
    comes_to marks c.args.hash c.requires.0 (λ slot. 0 < get_or marks slot 0) c.requires.1 (λ j h. c.loop-at.invariant j (omega arith)) in
    omega (arith, taken, c.requires.2)
