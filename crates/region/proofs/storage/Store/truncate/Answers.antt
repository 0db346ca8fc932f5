use Rattle.std.proofs.Common.{◌≡◌, ℕ, ◌<◌, ◌≤◌, List, length, get_or, set, take, arith, ap, ◌∙◌, sym}
use Rattle.std.specs.Vec.{vec_capacity}
use Rattle.std.proofs.lemmas.List.{length-take, length-map}
use Rattle.region.specs.declared.storage.Place.{Place}
use Rattle.region.specs.Layouts.{Chunk, words_in, row_at, rows_at, IsLaidOut, spare_in}
use Rattle.region.proofs.LayoutLaws.{first_rows, words_read, chunk_read, resized}
use Rattle.region.proofs.storage.Store.truncate.Goals as goal

-- what stays is laid out, with no less room
cut : (chunks : List Chunk) (current : ℕ) (places : List Place) (n : ℕ) (first : Place) (x y : Chunk) → n < length places → first ≡ get_or places n first → x ≡ get_or chunks first.chunk x → y.items ≡ take first.start x.items → vec_capacity y ≡ vec_capacity x → IsLaidOut chunks current places → IsLaidOut (set chunks first.chunk y) first.chunk (take n places) × (rows_at (set chunks first.chunk y) (take n places) ≡ take n (rows_at chunks places)) × (spare_in chunks current ≤ spare_in (set chunks first.chunk y) first.chunk)
cut chunks current places n first x y inside is read items room laid =
    let early = (laid.written n first inside).early in
    let there : first.chunk < length chunks = omega (arith, early, laid.chosen, ap (λ (q : Place). q.chunk) is) in
    let same = words_read chunks first.chunk x there read in
    let is_chunk = chunk_read chunks first.chunk x laid.are there read in
    let whole : length y.items ≤ 4096 = rw (items, length-take) (omega (arith, is_chunk.whole)) in
    first_rows chunks current places n first y inside is (items ∙ ap (take first.start) (sym same)) (resized x y is_chunk (omega arith) whole) laid

pub invariant_of-self : goal.invariant_of-self
invariant_of-self c =
    let count = ap (λ s. length s.rows) c.self.view_is in
    let inside : c.args.len < length c.self.inside.places.items =
    omega (arith, count, length-map c.self.inside.places.items (row_at (words_in c.self.inside.chunks.items))) in
    rw c.truncate-2.ensures.items (cut c.self.inside.chunks.items c.self.inside.current c.self.inside.places.items c.args.len c.index-first.result.now c.index_mut.result.now c.truncate.new.self inside c.index-first.ensures c.index_mut.ensures.value c.truncate.ensures.items c.truncate.ensures.capacity c.self.invariant).0

pub returns-clause-rows : goal.returns-clause-rows
returns-clause-rows c =
    let count = ap (λ s. length s.rows) c.self.view_is in
    let inside : c.args.len < length c.self.inside.places.items =
    omega (arith, count, length-map c.self.inside.places.items (row_at (words_in c.self.inside.chunks.items))) in
    rw c.truncate-2.ensures.items (cut c.self.inside.chunks.items c.self.inside.current c.self.inside.places.items c.args.len c.index-first.result.now c.index_mut.result.now c.truncate.new.self inside c.index-first.ensures c.index_mut.ensures.value c.truncate.ensures.items c.truncate.ensures.capacity c.self.invariant).1 ∙ ap (λ s. take c.args.len s.rows) c.self.view_is

pub returns-clause-words : goal.returns-clause-words
returns-clause-words c =
    let count = ap (λ s. length s.rows) c.self.view_is in
    let inside : c.args.len < length c.self.inside.places.items =
    omega (arith, count, length-map c.self.inside.places.items (row_at (words_in c.self.inside.chunks.items))) in
    omega (arith, (cut c.self.inside.chunks.items c.self.inside.current c.self.inside.places.items c.args.len c.index-first.result.now c.index_mut.result.now c.truncate.new.self inside c.index-first.ensures c.index_mut.ensures.value c.truncate.ensures.items c.truncate.ensures.capacity c.self.invariant).2, ap (λ s. s.spare_words) c.self.view_is)
