use Rattle.std.proofs.Common.{◌≤◌, ◌≡◌, length, take, arith, ap, ◌∙◌}
use Rattle.std.proofs.lemmas.List.{length-set}
use Rattle.region.proofs.SlotLaws.{some_slots}
use Rattle.region.specs.Slots.{marks_in, rows_in}
use Rattle.region.specs.Tables.{most_rows}
use Rattle.region.specs.Interned.{hashes}
use Rattle.region.proofs.RegionLaws.{newest_row_named, newest_row_gone, interned_fewer}
use Rattle.region.proofs.interning.Region.release.Goals as goal

pub remove-requires : goal.remove-requires
remove-requires c =
    newest_row_named c.self.inside.store.rows (marks_in c.back.self-inside.table.slots.items) (rows_in c.back.self-inside.table.slots.items) c.row.result.now c.back.len c.hash-hash.result (some_slots c.back.self-inside.table.slots.items c.back.self-inside.table.sized) (omega arith) (rw (← c.back.invariant.0) c.row.ensures) c.hash-hash.ensures c.back.invariant.4

pub back-preserved : goal.back-preserved
back-preserved c =
    let gone = newest_row_gone (hashes c.self.inside.store.rows) (marks_in c.back.self-inside.table.slots.items) (rows_in c.back.self-inside.table.slots.items) (marks_in c.remove.new.self.slots.items) c.back.len (some_slots c.back.self-inside.table.slots.items c.back.self-inside.table.sized) (omega arith) c.remove.ensures.marks c.back.invariant.4 in
    let away = c.remove.ensures.marks in
    (c.back.invariant.0, omega arith, omega (arith, c.back.invariant.2), ap length away.is ∙ length-set (marks_in c.back.self-inside.table.slots.items) away.slot 0 ∙ c.back.invariant.3, rw c.remove.ensures.rows gone)

pub invariant_of-self : goal.invariant_of-self
invariant_of-self c =
    let rows = c.self.inside.store.rows in
    let table = c.back.self-inside.table in
    let e : c.back.len ≡ c.args.mark.0 = omega (arith, c.back.invariant.1) in
    let kept : c.truncate.new.self.rows ≡ take c.args.mark.0 rows =
    c.truncate.ensures.rows ∙ ap (λ s. take c.args.mark.0 s.rows) c.back.invariant.0 in
    let few : c.args.mark.0 ≤ most_rows (length (marks_in table.slots.items)) =
    omega (arith, e, c.back.invariant.2, c.back.invariant.3, c.self.invariant.few) in
    rw kept (interned_fewer rows (marks_in table.slots.items) (rows_in table.slots.items) c.args.mark.0 (omega (arith, e, c.back.invariant.2)) few c.self.invariant.distinct (rw (← e) c.back.invariant.4))
