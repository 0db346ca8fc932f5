-- Laws of interned rows.
use Rattle.std.proofs.Common.{◌≡◌, ℕ, zero, suc, ◌+◌, ◌-◌, ◌<◌, ◌≤◌, ◌≢◌, List, [], ◌∷◌, ◌++◌, length, take, get_or, set, Bool, true, false, nat_eq, Some, add-one, sym, refl, ap, ◌∙◌, subst, inl, inr, arith}
use Rattle.std.specs.Prelude.{slice_get}
use Rattle.std.specs.List.{Contains}
use Rattle.std.proofs.lemmas.Bool.{cases_lt, cases_order}
use Rattle.std.proofs.lemmas.List.{length_push, length-set, get_or_append_left, get_or_push, get_or-take, length-take-le, get_or_default}
use Rattle.std.proofs.lemmas.Option.{get_or_from_slice_get, slice_get-get_or}
use Rattle.std.proofs.lemmas.Slice.Eq.{slice_eq-Decides}
use Rattle.std.proofs.lemmas.Bool.Decides.{Decides-eqb}
use Rattle.std.specs.Cmp.Lexicographic.{pointwise}
use borrow.Author.Count.{below_more}
use Rattle.region.specs.Hashes.{hash_of}
use Rattle.region.specs.Tables.{searched, mark_of, reach, IsTable, IsFirstFree, IsNamed, IsTakenAway, most_rows}
use Rattle.region.specs.Held.{AreDistinct}
use Rattle.region.specs.Interned.{hashes, AreInterned}
use Rattle.region.proofs.TableLaws.{has_free, reached, comes_to, mark_of-positive, with_newest, without_newest, newest_named, searched_in, same_below, IsReached}

-- a search passes taken slots alone that don't name the row
pub record PassesRow (rows : List (List ℕ)) (marks ids row : List ℕ) (i : ℕ) : Type 0 where
  pub taken : 0 < get_or marks i 0
  pub other : get_or marks i 0 ≡ mark_of (hash_of row) → get_or rows (get_or ids i 0) [] ≢ row

abbrev pub PassesRows : List (List ℕ) → List ℕ → List ℕ → List ℕ → ℕ → Type 0
PassesRows rows marks ids row at =
    (j : ℕ) → j < at → PassesRow rows marks ids row (searched (length marks) (hash_of row) j)

-- a search that comes to a free slot says that the row is not there
pub not_there : (rows : List (List ℕ)) (marks ids row : List ℕ) (at : ℕ) → 0 < length marks → AreInterned rows marks ids → PassesRows rows marks ids row at → get_or marks (searched (length marks) (hash_of row) at) 0 ≡ 0 → Contains rows row → ⊥
not_there rows marks ids row at some are passed free (k, inside, is) =
    let e : get_or rows k [] ≡ row = get_or_default rows k [] row inside ∙ is in
    let P : List ℕ → Type 0 = λ r. IsReached marks ids (hash_of r) k in
    let found : IsReached marks ids (hash_of row) k =
    subst P e (reached (hashes rows) marks ids (length rows) some are.table k inside) in
    elim (cases_order found.at at) [
      | inl same ↦
          let here : get_or marks (searched (length marks) (hash_of row) found.at) 0 ≡ get_or marks (searched (length marks) (hash_of row) at) 0 =
          ap (λ j. get_or marks (searched (length marks) (hash_of row) j) 0) same in
          omega (arith, here, free, found.marked, mark_of-positive (hash_of row))
      | inr (inl before) ↦ (passed found.at before).other found.marked (ap (λ i. get_or rows i []) found.names ∙ e)
      | inr (inr after) ↦ omega (arith, found.passed at after, free)
    ]

-- some search comes to a free slot
pub comes_to_free : (rows : List (List ℕ)) (marks ids row : List ℕ) → AreInterned rows marks ids → length rows < length marks → PassesRows rows marks ids row (reach (length marks)) → ⊥
comes_to_free rows marks ids row are few passed =
    let free = has_free (hashes rows) marks ids (length rows) are.table few in
    let taken : 0 < get_or marks free.0 0 =
    comes_to marks (hash_of row) free.0 (λ i. 0 < get_or marks i 0) free.1 (λ j h. (passed j h).taken) in
    omega (arith, taken, free.2)

-- a search that passes one slot more
pub passes_more : (rows : List (List ℕ)) (marks ids row : List ℕ) (hash at slot : ℕ) → hash ≡ hash_of row → slot ≡ searched (length marks) hash at → PassesRow rows marks ids row slot → PassesRows rows marks ids row at → PassesRows rows marks ids row (at + 1)
passes_more rows marks ids row hash at slot same is here before =
    let there : slot ≡ searched (length marks) (hash_of row) at = is ∙ ap (λ h. searched (length marks) h at) same in
    below_more (λ j. PassesRow rows marks ids row (searched (length marks) (hash_of row) j)) at before (subst (PassesRow rows marks ids row) there here)

-- what `==` says of two rows
pub rows_equal : (xs ys : List ℕ) (r : Bool) → r ≡ pointwise nat_eq xs ys → (r ≡ true → xs ≡ ys) × (xs ≡ ys → r ≡ true)
rows_equal xs ys r is = slice_eq-Decides Decides-eqb xs ys r is

-- a row that was compared and is another one
pub differs : (rows : List (List ℕ)) (ids row x : List ℕ) (slot id : ℕ) (r : Bool) → id ≡ get_or ids slot 0 → slice_get rows id ≡ Some x → r ≡ pointwise nat_eq x row → r ≡ false → get_or rows (get_or ids slot 0) [] ≢ row
differs rows ids row x slot id r named is compared unequal same =
    let e : x ≡ row = sym (get_or_from_slice_get rows id x [] is) ∙ ap (λ i. get_or rows i []) named ∙ same in
    let yes : r ≡ true = (rows_equal x row r compared).1 e in
    cc

-- the table of one row more
pub table_more : (rows : List (List ℕ)) (marks ids marks' ids' row : List ℕ) (n slot hash : ℕ) → 0 < length marks → length ids ≡ length marks → slice_get rows n ≡ Some row → hash ≡ hash_of row → IsFirstFree marks hash slot → marks' ≡ set marks slot (mark_of hash) → ids' ≡ set ids slot n → IsTable (hashes rows) marks ids n → (length marks' ≡ length marks) × IsTable (hashes rows) marks' ids' (n + 1)
table_more rows marks ids marks' ids' row n slot hash some alike is hashed first marked named t =
    let same : hash ≡ hashes rows n = hashed ∙ ap hash_of (sym (get_or_from_slice_get rows n row [] is)) in
    let P : ℕ → Type 0 = λ h. IsFirstFree marks h slot in
    let whole = with_newest (hashes rows) marks ids n slot some alike (subst P same first) t in
    (ap length marked ∙ length-set marks slot (mark_of hash), rw (add-one, marked, named, same) whole)

slice_get-push_left : (rows : List (List ℕ)) (row : List ℕ) (i : ℕ) → i < length rows → slice_get (rows ++ row ∷ []) i ≡ slice_get rows i
slice_get-push_left rows row i inside =
    slice_get-get_or (rows ++ row ∷ []) i row (omega (arith, length_push rows row)) ∙ ap Some (get_or_append_left rows (row ∷ []) row i inside) ∙ sym (slice_get-get_or rows i row inside)

pub slice_get-push_end : (rows : List (List ℕ)) (row : List ℕ) (i : ℕ) → i ≡ length rows → slice_get (rows ++ row ∷ []) i ≡ Some row
slice_get-push_end rows row i e =
    slice_get-get_or (rows ++ row ∷ []) i row (omega (arith, length_push rows row)) ∙ ap Some (get_or_push rows row row i (sym e))

stands : (rows : List (List ℕ)) (row : List ℕ) (i : ℕ) → i < length rows → slice_get rows i ≡ Some row → Contains rows row
stands rows row i inside is = (i, inside, get_or_from_slice_get rows i row row is)

-- one row more that is new
pub distinct_more : (rows : List (List ℕ)) (row : List ℕ) → AreDistinct rows → (Contains rows row → ⊥) → AreDistinct (rows ++ row ∷ [])
distinct_more rows row distinct new i j hi hj same =
    let count = length_push rows row in
    elim (cases_lt i (length rows)) [
      | inl li ↦ elim (cases_lt j (length rows)) [
        | inl lj ↦ distinct i j li lj (sym (slice_get-push_left rows row i li) ∙ same ∙ slice_get-push_left rows row j lj)
        | inr gj ↦
            let e : j ≡ length rows = omega arith in
            absurd (new (stands rows row i li (sym (slice_get-push_left rows row i li) ∙ same ∙ slice_get-push_end rows row j e)))
      ]
      | inr gi ↦
          let e : i ≡ length rows = omega arith in
          elim (cases_lt j (length rows)) [
            | inl lj ↦ absurd (new (stands rows row j lj (sym (slice_get-push_left rows row j lj) ∙ sym same ∙ slice_get-push_end rows row i e)))
            | inr gj ↦ omega arith
          ]
    ]

-- the region with one row more
pub interned_more : (rows both : List (List ℕ)) (marks ids marks' ids' row : List ℕ) (slot hash id : ℕ) → 0 < length marks → length ids ≡ length marks → both ≡ rows ++ row ∷ [] → hash ≡ hash_of row → id ≡ length rows → (Contains rows row → ⊥) → IsFirstFree marks hash slot → marks' ≡ set marks slot (mark_of hash) → ids' ≡ set ids slot id → length rows < most_rows (length marks) → AreInterned rows marks ids → AreInterned both marks' ids'
interned_more rows both marks ids marks' ids' row slot hash id some alike grown hashed next new first marked named few are =
    let agree : (k : ℕ) → k < id → hashes rows k ≡ hashes (rows ++ row ∷ []) k =
    λ k h. ap hash_of (sym (get_or_append_left rows (row ∷ []) [] k (omega arith))) in
    let table = same_below (hashes rows) (hashes (rows ++ row ∷ [])) marks ids id agree (rw next are.table) in
    let more = table_more (rows ++ row ∷ []) marks ids marks' ids' row id slot hash some alike (slice_get-push_end rows row id next) hashed first marked named table in
    let count : length (rows ++ row ∷ []) ≡ id + 1 = length_push rows row ∙ ap (λ n. n + 1) (sym next) in
    rw grown (record {
      distinct = distinct_more rows row are.distinct new;
      few = rw (count, more.0) (omega arith);
      table = rw count more.1;
    })

-- the newest row of a table is named
pub newest_row_named : (rows : List (List ℕ)) (marks ids row : List ℕ) (len hash : ℕ) → 0 < length marks → 0 < len → slice_get rows (len - 1) ≡ Some row → hash ≡ hash_of row → IsTable (hashes rows) marks ids len → IsNamed marks ids hash (len - 1)
newest_row_named rows marks ids row zero hash some positive is hashed t = absurd (omega arith)
newest_row_named rows marks ids row (suc n) hash some positive is hashed t =
    let one : suc n - 1 ≡ n = omega arith in
    let is' : slice_get rows n ≡ Some row = rw one at is in
    let same : hashes rows n ≡ hash = ap hash_of (get_or_from_slice_get rows n row [] is') ∙ sym hashed in
    let P : ℕ → Type 0 = λ h. IsNamed marks ids h n in
    rw one (subst P same (newest_named (hashes rows) marks ids n some t))

-- the table without its newest row
pub newest_row_gone : (hash : ℕ → ℕ) (marks ids left : List ℕ) (len : ℕ) → 0 < length marks → 0 < len → IsTakenAway marks ids (len - 1) left → IsTable hash marks ids len → IsTable hash left ids (len - 1)
newest_row_gone hash marks ids left zero some positive away t = absurd (omega arith)
newest_row_gone hash marks ids left (suc n) some positive away t =
    let one : suc n - 1 ≡ n = omega arith in
    let P : ℕ → Type 0 = λ k. IsTakenAway marks ids k left in
    rw one (without_newest hash marks ids left n some (subst P one away) t)

slice_get-take : (rows : List (List ℕ)) (n i : ℕ) → i < n → slice_get (take n rows) i ≡ slice_get rows i
slice_get-take [] zero i h = refl
slice_get-take [] (suc n) i h = refl
slice_get-take (r ∷ rows) zero i h = absurd (omega arith)
slice_get-take (r ∷ rows) (suc n) zero h = refl
slice_get-take (r ∷ rows) (suc n) (suc i) h = slice_get-take rows n i (omega arith)

-- the region of the first rows alone
pub interned_fewer : (rows : List (List ℕ)) (marks ids : List ℕ) (n : ℕ) → n ≤ length rows → n ≤ most_rows (length marks) → AreDistinct rows → IsTable (hashes rows) marks ids n → AreInterned (take n rows) marks ids
interned_fewer rows marks ids n inside few distinct t =
    let count : length (take n rows) ≡ n = length-take-le n rows inside in
    record {
      distinct = λ i j hi hj same. distinct i j (omega arith) (omega arith) (sym (slice_get-take rows n i (omega arith)) ∙ same ∙ slice_get-take rows n j (omega arith));
      few = rw count few;
      table = rw count (same_below (hashes rows) (hashes (take n rows)) marks ids n (λ k h. ap hash_of (sym (get_or-take n rows k [] h))) t);
    }

-- in the first free slot of a search there is a slot
pub first_inside : (marks : List ℕ) (hash slot : ℕ) → 0 < length marks → IsFirstFree marks hash slot → slot < length marks
first_inside marks hash slot some first = rw first.is (searched_in (length marks) hash first.at some first.within)
