use Rattle.std.proofs.Common.{◌≡◌, ◌<◌, ◌≢◌, [], length, get_or, arith, sym, ap, ◌∙◌}
use Rattle.region.proofs.SlotLaws.{length_marks, some_slots, mark_read, row_read}
use Rattle.region.specs.Slots.{marks_in, rows_in}
use Rattle.region.specs.Hashes.{hash_of}
use Rattle.region.specs.Tables.{searched, mark_of}
use Rattle.region.specs.Interned.{hashes}
use Rattle.region.proofs.TableLaws.{named_below}
use Rattle.region.proofs.RegionLaws.{not_there, comes_to_free, passes_more, differs}
use Rattle.region.proofs.interning.search.Goals as goal
use Rattle.region.proofs.interning.search.Goals.{then-found-mark+else-eq, else-found-mark}

pub returns-then-found-eq-FREE : goal.returns-then-found-eq-FREE
returns-then-found-eq-FREE c =
    let slots = c.args.table.now.slots.items in
    let marks = marks_in slots in
    let row = c.args.row.now in
    let there : c.searched-slot.result ≡ searched (length marks) (hash_of row) c.loop-at.at =
    c.searched-slot.ensures.is ∙ ap (λ h. searched (length marks) h c.loop-at.at) c.requires.hash in
    let free : get_or marks c.searched-slot.result 0 ≡ 0 =
    sym (mark_read slots c.searched-slot.result c.index-found.result.now c.searched-slot.ensures.within c.index-found.ensures) ∙ c.if-found-eq-FREE.true in (
      record {
        at = c.loop-at.at;
        within = omega arith;
        is = there;
        free = free;
        passed = λ j h. (c.loop-at.invariant j h).taken;
      },
      not_there c.args.store.now.rows marks (rows_in slots) row c.loop-at.at (some_slots slots c.args.table.now.sized) c.requires.rows c.loop-at.invariant (rw (← there) free),
    )

pub row-requires : goal.row-requires
row-requires c =
    let slots = c.args.table.now.slots.items in
    let rows = c.args.store.now.rows in
    let slot = c.searched-slot.result in
    let found = c.index-found.result.now in
    let inside = c.searched-slot.ensures.within in
    let taken : 0 < get_or (marks_in slots) slot 0 =
    omega (arith, mark_read slots slot found inside c.index-found.ensures, c.if-found-eq-FREE.false) in
    let below = named_below (hashes rows) (marks_in slots) (rows_in slots) (length rows) (some_slots slots c.args.table.now.sized) c.requires.rows.table slot taken in
    let named : c.row-id.result ≡ get_or (rows_in slots) slot 0 =
    c.row-id.ensures ∙ row_read slots slot found inside c.index-found.ensures in
    rw named below

pub loop-at-preserved : goal.loop-at-preserved
loop-at-preserved c =
    let slots = c.args.table.now.slots.items in
    let marks = marks_in slots in
    let ids = rows_in slots in
    let rows = c.args.store.now.rows in
    let slot = c.searched-slot.result in
    let found = c.index-found.result.now in
    let inside = c.searched-slot.ensures.within in
    let read : found.mark ≡ get_or marks slot 0 = mark_read slots slot found inside c.index-found.ensures in
    let taken : 0 < get_or marks slot 0 = omega (arith, read, c.if-found-eq-FREE.false) in
    let other : get_or marks slot 0 ≡ mark_of (hash_of c.args.row.now) → get_or rows (get_or ids slot 0) [] ≢ c.args.row.now =
    elim c.if-found-mark.branch [
      | then-found-mark+else-eq w ↦ λ same. differs rows ids c.args.row.now w.row.result.now slot w.row-id.result w.eq.result (w.row-id.ensures ∙ row_read slots slot found inside c.index-found.ensures) w.row.ensures w.eq.ensures w.if-eq.false
      | else-found-mark w ↦ λ same. absurd (w.if-found-mark.false (read ∙ same ∙ ap mark_of (sym c.requires.hash) ∙ sym c.mark_of-mark.ensures))
    ] in
    passes_more rows marks ids c.args.row.now c.args.hash c.loop-at.at slot c.requires.hash c.searched-slot.ensures.is (record { taken = taken; other = other }) c.loop-at.invariant

pub unreachable-requires : goal.unreachable-requires
unreachable-requires c =
    let slots = c.args.table.now.slots.items in
    comes_to_free c.args.store.now.rows (marks_in slots) (rows_in slots) c.args.row.now c.requires.rows (omega (arith, c.requires.rows.few, some_slots slots c.args.table.now.sized, c.args.table.now.sized.least, length_marks slots)) (λ j h. c.loop-at.invariant j (omega arith))
