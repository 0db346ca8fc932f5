use Rattle.std.proofs.Common.{◌∙◌}
use Rattle.region.proofs.SlotLaws.{marks-set, rows-set}
use Rattle.region.specs.Tables.{mark_of}
use Rattle.region.proofs.table.Table.put.Goals as goal

pub returns-clause-marks : goal.returns-clause-marks
returns-clause-marks c =
    marks-set c.args.self.now.slots.items c.args.slot c.new.result (mark_of c.args.hash) (c.new.ensures.mark ∙ c.mark_of.ensures)

pub returns-clause-rows : goal.returns-clause-rows
returns-clause-rows c = rows-set c.args.self.now.slots.items c.args.slot c.new.result c.args.row c.new.ensures.row
