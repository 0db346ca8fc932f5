use Rattle.std.proofs.Common.{◌≡◌, ℕ, ◌+◌, ◌≤◌, List, [], ◌∷◌, ◌++◌, length, get_or, set, arith, ap, ◌∙◌, sym, refl}
use Rattle.std.specs.Vec.{vec_capacity}
use Rattle.std.proofs.lemmas.List.{length-append}
use Rattle.region.specs.declared.storage.Place.{Place}
use Rattle.region.specs.Layouts.{Chunk, words_in, words_of, rows_at, IsChunk, IsLaidOut, KeepsChunks, IsChunkFor, spare_in}
use Rattle.region.proofs.LayoutLaws.{kept_layout, with_row, spends_words, words_read, chunk_read, resized, on_err}
use Rattle.region.proofs.storage.Store.push.Goals as goal

pub returns-in_err-chosen-clause-err : goal.returns-in_err-chosen-clause-err
returns-in_err-chosen-clause-err c =
    let same : rows_at c.chunk_for.new.chunks.items c.reserve.new.self.items ≡ c.args.self.now.rows =
    rw c.in_ok-reserve.ensures.items ((kept_layout c.self.inside.current c.self.inside.chunks.items c.chunk_for.new.chunks.items c.self.inside.places.items c.chunk_for.ensures.kept c.self.invariant).1 ∙ ap (λ s. s.rows) c.self.view_is) in
    on_err c.from_residual-in_err-chosen.result (rows_at c.chunk_for.new.chunks.items c.reserve.new.self.items ≡ c.args.self.now.rows) same

-- the rows with the row at the end of its chunk, which was x and is y
grown : (old mid : List Chunk) (current at : ℕ) (places pushed : List Place) (p : Place) (x y : Chunk) (row : List ℕ) → KeepsChunks (current + 1) old mid → IsChunkFor old mid current (length row) at → x ≡ get_or mid at x → y.items ≡ x.items ++ row → vec_capacity x ≤ vec_capacity y → pushed ≡ places ++ p ∷ [] → p.chunk ≡ at → p.start ≡ length x.items → p.length ≡ length row → IsLaidOut old current places → IsLaidOut (set mid at y) at pushed × (rows_at (set mid at y) pushed ≡ rows_at old places ++ row ∷ []) × (spare_in old current ≤ spare_in (set mid at y) at + length row)
grown old mid current at places pushed p x y row kept for read items room is in_chunk starts long laid =
    let there : words_of (words_in mid) at ≡ x.items = words_read mid at x for.within read in
    let ends : y.items ≡ words_of (words_in mid) at ++ row = items ∙ ap (λ ws. ws ++ row) (sym there) in
    let count : length y.items ≡ length (words_of (words_in mid) at) + length row =
    ap length ends ∙ length-append (words_of (words_in mid) at) row in
    let chunk : IsChunk y =
    resized x y (chunk_read mid at x kept.are for.within read) room (omega (arith, count, for.fits)) in
    let result = with_row old mid current at row y places p kept for ends chunk in_chunk (starts ∙ ap length (sym there)) long laid in
    rw is (result.0, result.1, spends_words old mid current at (length row) y laid.are laid.chosen kept for count)

pub invariant_of-self-2 : goal.invariant_of-self-2
invariant_of-self-2 c =
    let p : Place = record { chunk = c.in_ok-chosen.chosen; start = c.len-start.result; length = length c.args.row.now } in
    (grown c.self.inside.chunks.items c.chunk_for.new.chunks.items c.self.inside.current c.in_ok-chosen.chosen c.self.inside.places.items c.push.new.self.items p c.index_mut-chunk.result.now c.extend_from_slice.new.self c.args.row.now c.chunk_for.ensures.kept c.in_ok-chosen.ensures.ok c.index_mut-chunk.ensures.value c.in_ok-extend_from_slice.ensures.items c.extend_from_slice.ensures.capacity (c.in_ok-push.ensures.items ∙ ap (λ ps. ps ++ p ∷ []) c.in_ok-reserve.ensures.items) refl (omega (arith, c.len-start.ensures)) refl c.self.invariant).0

pub returns-clause-ok : goal.returns-clause-ok
returns-clause-ok c =
    let p : Place = record { chunk = c.in_ok-chosen.chosen; start = c.len-start.result; length = length c.args.row.now } in
    (grown c.self.inside.chunks.items c.chunk_for.new.chunks.items c.self.inside.current c.in_ok-chosen.chosen c.self.inside.places.items c.push.new.self.items p c.index_mut-chunk.result.now c.extend_from_slice.new.self c.args.row.now c.chunk_for.ensures.kept c.in_ok-chosen.ensures.ok c.index_mut-chunk.ensures.value c.in_ok-extend_from_slice.ensures.items c.extend_from_slice.ensures.capacity (c.in_ok-push.ensures.items ∙ ap (λ ps. ps ++ p ∷ []) c.in_ok-reserve.ensures.items) refl (omega (arith, c.len-start.ensures)) refl c.self.invariant).1 ∙ ap (λ s. s.rows ++ c.args.row.now ∷ []) c.self.view_is

pub returns-clause-words : goal.returns-clause-words
returns-clause-words c =
    let p : Place = record { chunk = c.in_ok-chosen.chosen; start = c.len-start.result; length = length c.args.row.now } in
    let spends = (grown c.self.inside.chunks.items c.chunk_for.new.chunks.items c.self.inside.current c.in_ok-chosen.chosen c.self.inside.places.items c.push.new.self.items p c.index_mut-chunk.result.now c.extend_from_slice.new.self c.args.row.now c.chunk_for.ensures.kept c.in_ok-chosen.ensures.ok c.index_mut-chunk.ensures.value c.in_ok-extend_from_slice.ensures.items c.extend_from_slice.ensures.capacity (c.in_ok-push.ensures.items ∙ ap (λ ps. ps ++ p ∷ []) c.in_ok-reserve.ensures.items) refl (omega (arith, c.len-start.ensures)) refl c.self.invariant).2 in
    omega (arith, spends, ap (λ s. s.spare_words) c.self.view_is)
