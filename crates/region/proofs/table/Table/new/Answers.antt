use Rattle.region.proofs.SlotLaws.{marks_of_new}
use Rattle.region.proofs.table.Table.new.Goals as goal

pub returns : goal.returns
returns c = marks_of_new c.new-slots.result.items c.resize.new.self.items c.args.size _ _ c.new-slots.ensures.items c.new-slots.ensures.len c.in_ok-resize.ensures.items
