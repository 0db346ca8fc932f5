-- Laws of slots as lists of marks and of rows.
use Rattle.std.proofs.Common.{◌≡◌, ℕ, zero, suc, ◌<◌, List, [], ◌∷◌, length, map, replicate, take, ◌++◌, ◌-◌, get_or, set, refl, arith, sym, ap, ◌∙◌}
use Rattle.std.proofs.lemmas.List.{length-map, get_or-map, map-set, set-get_or, take_all}
use Rattle.region.specs.declared.table.Slot.{Slot}
use Rattle.region.specs.Slots.{row_of, marks_in, rows_in, IsSized}

pub length_marks : (slots : List Slot) → length (marks_in slots) ≡ length slots
length_marks slots = length-map slots (λ (s : Slot). s.mark)

pub length_rows : (slots : List Slot) → length (rows_in slots) ≡ length slots
length_rows slots = length-map slots row_of

pub alike : (slots : List Slot) → length (rows_in slots) ≡ length (marks_in slots)
alike slots = length_rows slots ∙ sym (length_marks slots)

pub some_slots : (slots : List Slot) → IsSized slots → 0 < length (marks_in slots)
some_slots slots sized = omega (arith, sized.least, length_marks slots)

-- the mark of a slot that is read
pub mark_read : (slots : List Slot) (i : ℕ) (x : Slot) → i < length slots → x ≡ get_or slots i x → x.mark ≡ get_or (marks_in slots) i 0
mark_read slots i x inside is =
    ap (λ (s : Slot). s.mark) is ∙ sym (get_or-map (λ (s : Slot). s.mark) slots i x 0 inside)

-- the row of a slot that is read
pub row_read : (slots : List Slot) (i : ℕ) (x : Slot) → i < length slots → x ≡ get_or slots i x → row_of x ≡ get_or (rows_in slots) i 0
row_read slots i x inside is = ap row_of is ∙ sym (get_or-map row_of slots i x 0 inside)

map-replicate : {X Y : Type 0} (f : X → Y) (n : ℕ) (x : X) → map f (replicate n x) ≡ replicate n (f x)
map-replicate f zero x = refl
map-replicate f (suc n) x = ap (λ ys. f x ∷ ys) (map-replicate f n x)

-- free slots
pub marks-replicate : (n : ℕ) (s : Slot) → marks_in (replicate n s) ≡ replicate n s.mark
marks-replicate n s = map-replicate (λ (x : Slot). x.mark) n s

pub marks_of_new : (old items : List Slot) (n k : ℕ) (s : Slot) → old ≡ [] → k ≡ 0 → items ≡ take n old ++ replicate (n - k) s → marks_in items ≡ replicate n s.mark
marks_of_new old items n k s empty none is =
    let cut : take n old ≡ [] = rw empty (take_all n [] (omega arith)) in
    let whole : n - k ≡ n = omega arith in
    let all : items ≡ replicate n s = is ∙ (rw (cut, whole) refl) in
    ap marks_in all ∙ marks-replicate n s

pub marks-set : (slots : List Slot) (i : ℕ) (s : Slot) (mark : ℕ) → s.mark ≡ mark → marks_in (set slots i s) ≡ set (marks_in slots) i mark
marks-set slots i s mark is = map-set (λ (x : Slot). x.mark) slots i s ∙ ap (λ m. set (marks_in slots) i m) is

pub rows-set : (slots : List Slot) (i : ℕ) (s : Slot) (row : ℕ) → row_of s ≡ row → rows_in (set slots i s) ≡ set (rows_in slots) i row
rows-set slots i s row is = map-set row_of slots i s ∙ ap (λ r. set (rows_in slots) i r) is

-- a slot that names the same row as before
pub rows-set_same : (slots : List Slot) (i : ℕ) (s x : Slot) → i < length slots → x ≡ get_or slots i x → row_of s ≡ row_of x → rows_in (set slots i s) ≡ rows_in slots
rows-set_same slots i s x inside read is =
    rows-set slots i s (get_or (rows_in slots) i 0) (is ∙ row_read slots i x inside read) ∙ set-get_or (rows_in slots) i 0
