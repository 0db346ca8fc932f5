-- Laws of rows in chunks.
use Rattle.std.proofs.Common.{◌≡◌, ℕ, suc, ◌+◌, ◌-◌, ◌^◌, ◌<◌, ◌≤◌, ◌≢◌, List, [], ◌∷◌, ◌++◌, length, map, take, drop, get_or, set, sym, refl, ap, ◌∙◌, subst, inl, inr, arith}
use Rattle.std.specs.Prelude.{slice_range, Result, Ok, Err, OnErr}
use Rattle.std.specs.List.{All}
use Rattle.std.specs.Vec.{vec_capacity}
use Rattle.std.proofs.lemmas.Bool.{cases_lt, cases_eq}
use Rattle.std.proofs.lemmas.List.{length-set, length-map, length-append, get_or-set_same, get_or-set_other, get_or_append_left, get_or-map, map-set, map_push, take-map, length_push, take-append-le, take-take, drop-take, drop_at, take_all, get_or_read, get_or-take, length-take, length-take-le}
use Rattle.std.proofs.lemmas.List.Elements.{All-set, All-push}
use Rattle.std.proofs.lemmas.List.Quantifiers.{all_pairs_push}
use Rattle.region.specs.declared.storage.Place.{Place}
use Rattle.region.specs.Layouts.{Chunk, chunk_words, words_in, words_of, row_at, rows_at, IsWritten, IsBefore, IsChunk, AreChunks, IsLaidOut, KeepsChunks, IsChunkFor, spare_in}

-- the words of a chunk
pub words_are : (chunks : List Chunk) (i : ℕ) (c : Chunk) → i < length chunks → words_of (words_in chunks) i ≡ (get_or chunks i c).items
words_are chunks i c inside = get_or-map (λ (k : Chunk). k.items) chunks i c [] inside

-- the words of a chunk that is read
pub words_read : (chunks : List Chunk) (i : ℕ) (x : Chunk) → i < length chunks → x ≡ get_or chunks i x → words_of (words_in chunks) i ≡ x.items
words_read chunks i x inside is = words_are chunks i x inside ∙ ap (λ (k : Chunk). k.items) (sym is)

pub chunk_read : (chunks : List Chunk) (i : ℕ) (x : Chunk) → AreChunks chunks → i < length chunks → x ≡ get_or chunks i x → IsChunk x
chunk_read chunks i x are inside is = subst IsChunk (sym is) (are.each i x inside)

-- a chunk whose room doesn't shrink
pub resized : (x y : Chunk) → IsChunk x → vec_capacity x ≤ vec_capacity y → length y.items ≤ chunk_words → IsChunk y
resized x y is room whole = record { room = omega (arith, is.room); whole = whole }

pub words_set_same : (chunks : List Chunk) (i : ℕ) (c : Chunk) → i < length chunks → words_of (words_in (set chunks i c)) i ≡ c.items
words_set_same chunks i c inside =
    words_are (set chunks i c) i c (rw length-set inside) ∙ ap (λ (k : Chunk). k.items) (get_or-set_same chunks i c c inside)

words_set_other : (chunks : List Chunk) (i j : ℕ) (c : Chunk) → j ≢ i → words_of (words_in (set chunks i c)) j ≡ words_of (words_in chunks) j
words_set_other chunks i j c other =
    rw (map-set (λ (k : Chunk). k.items) chunks i c) (get_or-set_other (words_in chunks) i j c.items [] other)

pub keeps_all : (n : ℕ) (chunks : List Chunk) → AreChunks chunks → KeepsChunks n chunks chunks
keeps_all n chunks are = record { same = λ c h. refl; more = omega arith; are = are }

-- one more chunk
pub keeps_push : (n : ℕ) (old new : List Chunk) (c : Chunk) → n ≤ length old → length new < 2 ^ 32 → IsChunk c → KeepsChunks n old new → KeepsChunks n old (new ++ c ∷ [])
keeps_push n old new c inside few is kept =
    record {
      same = λ k h.
          let here : k < length (words_in new) = rw length-map (omega (arith, kept.more)) in
          rw (map_push (λ (x : Chunk). x.items) new c, get_or_append_left (words_in new) (c.items ∷ []) [] k here) (kept.same k h);
      more = rw length_push (omega (arith, kept.more));
      are = record { few = rw length_push (omega arith); each = All-push IsChunk new c kept.are.each is };
    }

-- another chunk past the first n
pub keeps_set : (n : ℕ) (old new : List Chunk) (i : ℕ) (c : Chunk) → n ≤ i → IsChunk c → KeepsChunks n old new → KeepsChunks n old (set new i c)
keeps_set n old new i c past is kept =
    record {
      same = λ k h. words_set_other new i k c (λ e. omega arith) ∙ kept.same k h;
      more = rw length-set kept.more;
      are = record { few = rw length-set kept.are.few; each = All-set IsChunk new i c is kept.are.each };
    }

pub keeps_fewer : (n m : ℕ) (old new : List Chunk) → n ≤ m → KeepsChunks m old new → KeepsChunks n old new
keeps_fewer n m old new le kept = record { same = λ c h. kept.same c (omega arith); more = kept.more; are = kept.are }

slice_same : (xs ys : List ℕ) (a b : ℕ) → a ≤ b → take b xs ≡ take b ys → slice_range xs a b ≡ slice_range ys a b
slice_same xs ys a b le e =
    let split : a + (b - a) ≡ b = omega arith in
    let left : drop a (take b xs) ≡ slice_range xs a b = rw split at (drop-take a (b - a) xs) in
    let right : drop a (take b ys) ≡ slice_range ys a b = rw split at (drop-take a (b - a) ys) in
    sym left ∙ ap (drop a) e ∙ right

-- a row stays where it stands
record Stays (words now : List (List ℕ)) (current : ℕ) (p : Place) : Type 0 where
  written : IsWritten now current p
  same : row_at now p ≡ row_at words p

map_same : {X Y : Type 0} (f g : X → Y) (xs : List X) → All (λ x. f x ≡ g x) xs → map f xs ≡ map g xs
map_same f g [] all = refl
map_same f g (x ∷ xs) all =
    let here : f x ≡ g x = all 0 x (omega arith) in
    let rest : map f xs ≡ map g xs = map_same f g xs (λ k d h. all (suc k) d (omega arith)) in
    cc

rows_stay : (old new : List Chunk) (current : ℕ) (places : List Place) → All (Stays (words_in old) (words_in new) current) places → rows_at new places ≡ rows_at old places
rows_stay old new current places all = map_same (row_at (words_in new)) (row_at (words_in old)) places (λ k d h. (all k d h).same)

stays_kept : (n current then : ℕ) (old new : List Chunk) (p : Place) → current < n → current ≤ then → KeepsChunks n old new → IsWritten (words_in old) current p → Stays (words_in old) (words_in new) then p
stays_kept n current then old new p inside later kept w =
    let same : words_of (words_in new) p.chunk ≡ words_of (words_in old) p.chunk = kept.same p.chunk (omega (arith, w.early)) in
    record {
      written = record { early = omega (arith, w.early); within = rw same w.within };
      same = ap (λ ws. slice_range ws p.start (p.start + p.length)) same;
    }

-- the rows stay in chunks that are kept
pub kept_layout : (current : ℕ) (old new : List Chunk) (places : List Place) → KeepsChunks (current + 1) old new → IsLaidOut old current places → IsLaidOut new current places × (rows_at new places ≡ rows_at old places)
kept_layout current old new places kept laid =
    let stay : All (Stays (words_in old) (words_in new) current) places =
    λ k d h. stays_kept (current + 1) current current old new (get_or places k d) (omega arith) (omega arith) kept (laid.written k d h) in (
      record {
        are = kept.are;
        chosen = omega (arith, kept.more, laid.chosen);
        written = λ k d h. (stay k d h).written;
        ordered = laid.ordered;
      },
      rows_stay old new current places stay,
    )

stays_in_place : (words mid now : List (List ℕ)) (at : ℕ) (row : List ℕ) (p : Place) → Stays words mid at p → words_of now at ≡ words_of mid at ++ row → p.chunk ≡ at → Stays words now at p
stays_in_place words mid now at row p before is e =
    let is' : words_of now p.chunk ≡ words_of mid p.chunk ++ row = rw e is in
    let ends : p.start + p.length ≤ length (words_of mid p.chunk) = before.written.within in
    record {
      written = record { early = before.written.early; within = rw (is', length-append) (omega arith) };
      same = slice_same (words_of now p.chunk) (words_of mid p.chunk) p.start (p.start + p.length) (omega arith) (rw (is', take-append-le (p.start + p.length) (words_of mid p.chunk) row ends) refl) ∙ before.same;
    }

-- one more row in the chunk that is there for it
stays_pushed : (old new : List Chunk) (current at : ℕ) (row : List ℕ) (c : Chunk) (p : Place) → KeepsChunks (current + 1) old new → IsChunkFor old new current (length row) at → c.items ≡ words_of (words_in new) at ++ row → IsWritten (words_in old) current p → Stays (words_in old) (words_in (set new at c)) at p
stays_pushed old new current at row c p kept for is w =
    let later : current ≤ at = elim for.which [ inl e ↦ omega (arith, e.0) | inr e ↦ omega (arith, e.0) ] in
    let before : Stays (words_in old) (words_in new) at p = stays_kept (current + 1) current at old new p (omega arith) later kept w in
    elim (cases_eq p.chunk at) [
      | inl e ↦ stays_in_place (words_in old) (words_in new) (words_in (set new at c)) at row p before (words_set_same new at c for.within ∙ is) e
      | inr ne ↦
          let same = words_set_other new at p.chunk c ne in
          record {
            written = record { early = before.written.early; within = rw same before.written.within };
            same = ap (λ ws. slice_range ws p.start (p.start + p.length)) same ∙ before.same;
          }
    ]

-- how much surely has room after one more row of so many words
pub spends_words : (old new : List Chunk) (current at size : ℕ) (c : Chunk) → AreChunks old → current < length old → KeepsChunks (current + 1) old new → IsChunkFor old new current size at → length c.items ≡ length (words_of (words_in new) at) + size → spare_in old current ≤ spare_in (set new at c) at + size
spends_words old new current at size c are chosen kept for is =
    let now : length (words_of (words_in (set new at c)) at) ≡ length (words_of (words_in new) at) + size =
    ap length (words_set_same new at c for.within) ∙ is in
    let count = length-set new at c in
    let before : length (words_of (words_in new) current) ≡ length (words_of (words_in old) current) =
    ap length (kept.same current (omega arith)) in
    elim for.which [
      | inl e ↦
          let here : length (words_of (words_in new) at) ≡ length (words_of (words_in new) current) =
          ap (λ k. length (words_of (words_in new) k)) e.0 in
          omega (arith, e.0, e.1, for.fits)
      | inr e ↦
          let none : length (words_of (words_in new) at) ≡ 0 = ap length e.1 in
          omega (arith, e.0, e.2, for.fits, for.within, kept.more)
    ]

-- what surely has room stays where chunks are kept
pub spare_kept : (old new : List Chunk) (current : ℕ) → KeepsChunks (current + 1) old new → spare_in old current ≤ spare_in new current
spare_kept old new current kept =
    let same : length (words_of (words_in new) current) ≡ length (words_of (words_in old) current) =
    ap length (kept.same current (omega arith)) in
    omega (arith, kept.more)

range_at_end : (words row : List ℕ) (start size : ℕ) → start ≡ length words → size ≡ length row → slice_range (words ++ row) start (start + size) ≡ row
range_at_end words row start size starts long =
    rw (drop_at words row start (sym starts)) (take_all (start + size - start) row (omega arith))

before_end : (old new : List Chunk) (current at size : ℕ) (p q : Place) → KeepsChunks (current + 1) old new → IsChunkFor old new current size at → q.chunk ≡ at → q.start ≡ length (words_of (words_in new) at) → IsWritten (words_in old) current p → IsBefore p q
before_end old new current at size p q kept for in_chunk starts w =
    let later : current ≤ at = elim for.which [ inl e ↦ omega (arith, e.0) | inr e ↦ omega (arith, e.0) ] in
    let here = (stays_kept (current + 1) current at old new p (omega arith) later kept w).written in
    elim (cases_lt p.chunk at) [
      | inl lt ↦ inl (omega arith)
      | inr le ↦
          let e : p.chunk ≡ at = omega (arith, here.early) in
          let same : length (words_of (words_in new) p.chunk) ≡ length (words_of (words_in new) at) =
          ap (λ k. length (words_of (words_in new) k)) e in
          inr (omega arith, omega (arith, here.within))
    ]

-- the rows with one more in the chunk that is there for it
pub with_row : (old new : List Chunk) (current at : ℕ) (row : List ℕ) (c : Chunk) (places : List Place) (p : Place) → KeepsChunks (current + 1) old new → IsChunkFor old new current (length row) at → c.items ≡ words_of (words_in new) at ++ row → IsChunk c → p.chunk ≡ at → p.start ≡ length (words_of (words_in new) at) → p.length ≡ length row → IsLaidOut old current places → IsLaidOut (set new at c) at (places ++ p ∷ []) × (rows_at (set new at c) (places ++ p ∷ []) ≡ rows_at old places ++ row ∷ [])
with_row old new current at row c places p kept for is chunk in_chunk starts long laid =
    let now = set new at c in
    let stay : All (Stays (words_in old) (words_in now) at) places =
    λ k d h. stays_pushed old new current at row c (get_or places k d) kept for is (laid.written k d h) in
    let here : words_of (words_in now) p.chunk ≡ words_of (words_in new) at ++ row =
    rw in_chunk (words_set_same new at c for.within ∙ is) in
    let size = length-append (words_of (words_in new) at) row in
    let written : IsWritten (words_in now) at p = record {
      early = omega arith;
      within = rw (here, length-append) (omega arith);
    } in
    let is_row : row_at (words_in now) p ≡ row =
    ap (λ ws. slice_range ws p.start (p.start + p.length)) here ∙ range_at_end (words_of (words_in new) at) row p.start p.length starts long in (
      record {
        are = record { few = rw length-set kept.are.few; each = All-set IsChunk new at c chunk kept.are.each };
        chosen = rw length-set for.within;
        written = All-push (IsWritten (words_in now) at) places p (λ k d h. (stay k d h).written) written;
        ordered = all_pairs_push IsBefore places p laid.ordered (λ k d h. before_end old new current at (length row) (get_or places k d) p kept for in_chunk starts (laid.written k d h));
      },
      rw (map_push (row_at (words_in now)) places p, rows_stay old now at places stay, is_row) refl,
    )

-- a row before the first one that goes stays where it is
stays_cut : (chunks : List Chunk) (current : ℕ) (p first : Place) (c : Chunk) → first.chunk < length chunks → IsBefore p first → c.items ≡ take first.start (words_of (words_in chunks) first.chunk) → IsWritten (words_in chunks) current p → first.start ≤ length (words_of (words_in chunks) first.chunk) → Stays (words_in chunks) (words_in (set chunks first.chunk c)) first.chunk p
stays_cut chunks current p first c inside (inl lt) is w starts =
    let same = words_set_other chunks first.chunk p.chunk c (λ e. omega arith) in
    record {
      written = record { early = omega arith; within = rw same w.within };
      same = ap (λ ws. slice_range ws p.start (p.start + p.length)) same;
    }
stays_cut chunks current p first c inside (inr (e, le)) is w starts =
    let before = words_of (words_in chunks) first.chunk in
    let now : words_of (words_in (set chunks first.chunk c)) p.chunk ≡ take first.start before =
    rw e (words_set_same chunks first.chunk c inside ∙ is) in
    let old : words_of (words_in chunks) p.chunk ≡ before = rw e refl in
    record {
      written = record { early = omega arith; within = rw now (omega (arith, length-take first.start before)) };
      same = slice_same (words_of (words_in (set chunks first.chunk c)) p.chunk) (words_of (words_in chunks) p.chunk) p.start (p.start + p.length) (omega arith) (rw (now, old) (take-take (p.start + p.length) first.start before le));
    }

spare_cut : (chunks : List Chunk) (current at start : ℕ) (c : Chunk) → at < length chunks → current < length chunks → at ≤ current → c.items ≡ take start (words_of (words_in chunks) at) → spare_in chunks current ≤ spare_in (set chunks at c) at
spare_cut chunks current at start c there chosen early cut =
    let now : length (words_of (words_in (set chunks at c)) at) ≡ length (take start (words_of (words_in chunks) at)) =
    ap length (words_set_same chunks at c there ∙ cut) in
    let short = length-take start (words_of (words_in chunks) at) in
    let count = length-set chunks at c in
    elim (cases_lt at current) [
      | inl lt ↦ omega arith
      | inr le ↦
          let e : at ≡ current = omega arith in
          let same : length (words_of (words_in chunks) at) ≡ length (words_of (words_in chunks) current) =
          ap (λ k. length (words_of (words_in chunks) k)) e in
          omega arith
    ]

-- the first so many rows alone
pub first_rows : (chunks : List Chunk) (current : ℕ) (places : List Place) (n : ℕ) (first : Place) (c : Chunk) → n < length places → first ≡ get_or places n first → c.items ≡ take first.start (words_of (words_in chunks) first.chunk) → IsChunk c → IsLaidOut chunks current places → IsLaidOut (set chunks first.chunk c) first.chunk (take n places) × (rows_at (set chunks first.chunk c) (take n places) ≡ take n (rows_at chunks places)) × (spare_in chunks current ≤ spare_in (set chunks first.chunk c) first.chunk)
first_rows chunks current places n first c inside is cut chunk laid =
    let now = set chunks first.chunk c in
    let at : (d : Place) → get_or places n d ≡ first = λ d. sym (get_or_read places n first inside is d) in
    let written : IsWritten (words_in chunks) current first =
    let P : Place → Type 0 = λ q. IsWritten (words_in chunks) current q in subst P (at first) (laid.written n first inside) in
    let there : first.chunk < length chunks = omega (arith, written.early, laid.chosen) in
    let count : length (take n places) ≡ n = length-take-le n places (omega arith) in
    let stay : All (Stays (words_in chunks) (words_in now) first.chunk) (take n places) =
    λ k d h.
    let below : k < n = omega arith in
    let before : IsBefore (get_or places k d) first =
    let P : Place → Type 0 = λ q. IsBefore (get_or places k d) q in subst P (at d) (laid.ordered k n d below inside) in
    let P : Place → Type 0 = λ q. Stays (words_in chunks) (words_in now) first.chunk q in
    subst P (sym (get_or-take n places k d below)) (stays_cut chunks current (get_or places k d) first c there before cut (laid.written k d (omega arith)) (omega (arith, written.within))) in (
      record {
        are = record { few = rw length-set laid.are.few; each = All-set IsChunk chunks first.chunk c chunk laid.are.each };
        chosen = rw length-set there;
        written = λ k d h. (stay k d h).written;
        ordered = λ i j d lt h. rw (get_or-take n places i d (omega arith), get_or-take n places j d (omega arith)) (laid.ordered i j d lt (omega arith));
      },
      rows_stay chunks now first.chunk (take n places) stay ∙ sym (take-map (row_at (words_in chunks)) n places),
      spare_cut chunks current first.chunk first.start c there laid.chosen written.early cut,
    )

-- what holds whatever the result is
pub on_err : {T E : Type 0} (r : Result T E) (P : Type 0) → P → OnErr r P
on_err (Ok x) P p = tt
on_err (Err e) P p = p
