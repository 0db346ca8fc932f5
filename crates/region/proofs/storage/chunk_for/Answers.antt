use Rattle.std.proofs.Common.{◌≡◌, ◌+◌, ◌<◌, [], length, set, arith, inr, refl, ap, ◌∙◌}
use Rattle.std.proofs.lemmas.List.{length-set}
use Rattle.region.specs.Layouts.{words_in, words_of, IsChunk}
use Rattle.region.proofs.LayoutLaws.{words_read, words_set_same, chunk_read, resized, keeps_set, keeps_fewer}
use Rattle.region.proofs.storage.chunk_for.Goals as goal

pub returns-clause-kept : goal.returns-clause-kept
returns-clause-kept c =
    let mid = c.add_chunks.new.chunks.items in
    let next = c.args.current + 1 in
    let kept = c.add_chunks.ensures.kept in
    let inside : next < length mid = omega (arith, c.in_ok-add_chunks.ensures.ok) in
    let is : IsChunk c.clear.new.self =
    resized c.index_mut.result.now c.clear.new.self (chunk_read mid next c.index_mut.result.now kept.are inside c.index_mut.ensures.value) (omega (arith, c.clear.ensures.capacity)) (omega (arith, ap length c.clear.ensures.items)) in
    keeps_set next c.args.chunks.now.items mid next c.clear.new.self (omega arith) is
    (keeps_fewer next (length c.args.chunks.now.items) c.args.chunks.now.items mid (omega (arith, c.requires.chosen)) kept)

pub returns-clause-ok : goal.returns-clause-ok
returns-clause-ok c =
    let old = c.args.chunks.now.items in
    let mid = c.add_chunks.new.chunks.items in
    let next = c.args.current + 1 in
    let inside : next < length mid = omega (arith, c.in_ok-add_chunks.ensures.ok) in
    let none : words_of (words_in (set mid next c.clear.new.self)) next ≡ [] =
    words_set_same mid next c.clear.new.self inside ∙ c.clear.ensures.items in
    let size : length (words_of (words_in old) c.args.current) ≡ length c.index.result.now.items =
    ap length (words_read old c.args.current c.index.result.now c.requires.chosen c.index.ensures) in
    record {
      within = rw length-set inside;
      fits = rw none (omega (arith, c.requires.few));
      which = inr (refl, none, omega (arith, size));
    }
