-- Laws of tables of slots.
use Rattle.std.proofs.Common.{◌≡◌, ℕ, zero, suc, ◌+◌, ◌<◌, ◌≤◌, ◌≢◌, List, [], ◌∷◌, length, replicate, get_or, set, sym, refl, ◌∙◌, subst, inl, inr, arith}
use Rattle.std.proofs.lemmas.Nat.{and_le_r}
use Rattle.std.proofs.lemmas.Bool.{cases_lt, cases_eq}
use Rattle.std.proofs.lemmas.Grind.{common_steps}
use Rattle.std.proofs.lemmas.List.{length-set, get_or-set_same, get_or-set_other, set-set, set-get_or, get_or_past, get_or-replicate, length-replicate}
use Rattle.region.specs.Tables.{in_runs, reach, searched, mark_of, PassesTaken, IsFirstFree, HasFree, IsNewest, IsTable, IsTakenAway, IsNamed}

-- the search passes no taken slot that names the row
abbrev pub PassesOthers : List ℕ → List ℕ → ℕ → ℕ → ℕ → Type 0
PassesOthers marks ids hash id at =
    (j : ℕ) → j < at → 0 < get_or marks (searched (length marks) hash j) 0 → get_or ids (searched (length marks) hash j) 0 ≢ id

pub searched_in : (size hash at : ℕ) → 0 < size → at < reach size → searched size hash at < size
unfolding searched
searched_in size hash at some inside = grind (arith, common_steps, and_le_r)

pub searched_all : (size hash i : ℕ) → searched size hash (in_runs + i) ≡ i
unfolding searched
searched_all size hash i = grind (arith, common_steps)

pub mark_of-positive : (hash : ℕ) → 0 < mark_of hash
unfolding mark_of
mark_of-positive hash = omega arith

-- a search comes to each slot
pub comes_to : (marks : List ℕ) (hash i : ℕ) (P : ℕ → Type 0) → i < length marks → ((j : ℕ) → j < reach (length marks) → P (searched (length marks) hash j)) → P i
comes_to marks hash i P inside all = subst P (searched_all (length marks) hash i) (all (in_runs + i) (omega arith))

-- how many slots are taken
count : List ℕ → ℕ
count [] = 0
count (zero ∷ xs) = count xs
count (suc x ∷ xs) = suc (count xs)

count-set : (xs : List ℕ) (i : ℕ) → count xs ≤ suc (count (set xs i 0))
unfolding count
count-set [] i = omega arith
count-set (zero ∷ xs) zero = omega arith
count-set (suc x ∷ xs) zero = omega arith
count-set (zero ∷ xs) (suc i) = count-set xs i
count-set (suc x ∷ xs) (suc i) = omega (arith, count-set xs i)

count_none : (xs : List ℕ) → ((i : ℕ) → i < length xs → get_or xs i 0 ≡ 0) → count xs ≡ 0
unfolding count
count_none [] all = refl
count_none (zero ∷ xs) all = count_none xs (λ i h. all (suc i) (omega arith))
count_none (suc x ∷ xs) all = absurd (omega (arith, all 0 (omega arith)))

free_below : (xs : List ℕ) → count xs < length xs → HasFree xs
unfolding count
free_below [] h = absurd (omega arith)
free_below (zero ∷ xs) h = (0, omega arith, refl)
free_below (suc x ∷ xs) h = let r = free_below xs (omega arith) in (suc r.0, omega (arith, r.1), r.2)

count_le : (hashes : ℕ → ℕ) (marks ids : List ℕ) (n : ℕ) → IsTable hashes marks ids n → count marks ≤ n
count_le hashes marks ids zero t = omega (arith, count_none marks t)
count_le hashes marks ids (suc n) (slot, newest, rest) =
    omega (arith, count-set marks slot, count_le hashes (set marks slot 0) ids n rest)

-- a table of fewer rows than slots has a free one
pub has_free : (hashes : ℕ → ℕ) (marks ids : List ℕ) (n : ℕ) → IsTable hashes marks ids n → n < length marks → HasFree marks
has_free hashes marks ids n t few = free_below marks (omega (arith, count_le hashes marks ids n t))

-- the rows that a table holds are found: a search for one comes to its slot over taken slots alone
pub record IsReached (marks ids : List ℕ) (hash id : ℕ) : Type 0 where
  pub at : ℕ
  pub within : at < reach (length marks)
  pub marked : get_or marks (searched (length marks) hash at) 0 ≡ mark_of hash
  pub names : get_or ids (searched (length marks) hash at) 0 ≡ id
  pub passed : PassesTaken marks hash at

-- a slot that is taken after one was made free is another one, and was taken before
kept : (marks : List ℕ) (slot i : ℕ) → slot < length marks → 0 < get_or (set marks slot 0) i 0 → (i ≢ slot) × (get_or (set marks slot 0) i 0 ≡ get_or marks i 0)
kept marks slot i inside h =
    let other : i ≢ slot = λ e. grind (arith, get_or-set_same marks slot 0 0 inside) in
    (other, get_or-set_other marks slot i 0 0 other)

passed_before : (marks : List ℕ) (hash slot at : ℕ) → slot < length marks → PassesTaken (set marks slot 0) hash at → PassesTaken marks hash at
passed_before marks hash slot at inside passed j h =
    let same = length-set marks slot 0 in
    let p : 0 < get_or (set marks slot 0) (searched (length marks) hash j) 0 = rw same at (passed j h) in
    rw (← (kept marks slot (searched (length marks) hash j) inside p).1) p

newest_inside : (marks ids : List ℕ) (hash n slot : ℕ) → 0 < length marks → IsNewest hash marks ids n slot → slot < length marks
newest_inside marks ids hash n slot some newest =
    rw newest.is (searched_in (length marks) hash newest.at some newest.within)

still_reached : (marks ids : List ℕ) (hash slot r : ℕ) → slot < length marks → IsReached (set marks slot 0) ids hash r → IsReached marks ids hash r
still_reached marks ids hash slot r inside found =
    let same = length-set marks slot 0 in
    let s = searched (length marks) hash found.at in
    let marked : get_or (set marks slot 0) s 0 ≡ mark_of hash = rw same at found.marked in
    let positive : 0 < get_or (set marks slot 0) s 0 = rw marked (mark_of-positive hash) in
    record {
      at = found.at;
      within = rw (← same) found.within;
      marked = sym (kept marks slot s inside positive).1 ∙ marked;
      names = rw same at found.names;
      passed = passed_before marks hash slot found.at inside found.passed;
    }

newest_reached : (hashes : ℕ → ℕ) (marks ids : List ℕ) (n r slot : ℕ) → 0 < length marks → r ≡ n → IsNewest (hashes n) marks ids n slot → IsReached marks ids (hashes r) r
newest_reached hashes marks ids n r slot some e newest =
    let found : IsReached marks ids (hashes n) n = record {
      at = newest.at;
      within = newest.within;
      marked = rw (← newest.is) newest.marked;
      names = rw (← newest.is) newest.names;
      passed = passed_before marks (hashes n) slot newest.at (newest_inside marks ids (hashes n) n slot some newest) newest.passed;
    } in
    let P : ℕ → Type 0 = λ k. IsReached marks ids (hashes k) k in subst P (sym e) found

pub reached : (hashes : ℕ → ℕ) (marks ids : List ℕ) (n : ℕ) → 0 < length marks → IsTable hashes marks ids n → (r : ℕ) → r < n → IsReached marks ids (hashes r) r
reached hashes marks ids zero some t r h = absurd (omega arith)
reached hashes marks ids (suc n) some (slot, newest, rest) r h =
    let inside = newest_inside marks ids (hashes n) n slot some newest in
    elim (cases_eq r n) [
      | inl e ↦ newest_reached hashes marks ids n r slot some e newest
      | inr ne ↦ still_reached marks ids (hashes r) slot r inside (reached hashes (set marks slot 0) ids n (rw length-set some) rest r (omega arith))
    ]

-- a taken slot names one of the rows
pub named_below : (hashes : ℕ → ℕ) (marks ids : List ℕ) (n : ℕ) → 0 < length marks → IsTable hashes marks ids n → (i : ℕ) → 0 < get_or marks i 0 → get_or ids i 0 < n
named_below hashes marks ids zero some t i taken =
    elim (cases_lt i (length marks)) [ inl h ↦ absurd (omega (arith, t i h)) | inr h ↦ absurd (omega (arith, get_or_past marks i 0 h)) ]
named_below hashes marks ids (suc n) some (slot, newest, rest) i taken =
    elim (cases_eq i slot) [
      | inl e ↦ rw (e, newest.names) (omega arith)
      | inr ne ↦ omega (arith, named_below hashes (set marks slot 0) ids n (rw length-set some) rest i (rw get_or-set_other taken))
    ]

-- what a free slot names doesn't matter
free_slot_names : (hashes : ℕ → ℕ) (marks ids : List ℕ) (n slot x : ℕ) → 0 < length marks → get_or marks slot 0 ≡ 0 → IsTable hashes marks ids n → IsTable hashes marks (set ids slot x) n
free_slot_names hashes marks ids zero slot x some free t = t
free_slot_names hashes marks ids (suc n) slot x some free (taken, newest, rest) =
    let inside = newest_inside marks ids (hashes n) n taken some newest in
    let other : taken ≢ slot = λ e. grind (arith, newest.marked, mark_of-positive (hashes n)) in
    let free' : get_or (set marks taken 0) slot 0 ≡ 0 = get_or-set_other marks taken slot 0 0 (λ e. other (sym e)) ∙ free in (
      taken,
      record {
        at = newest.at;
        within = newest.within;
        is = newest.is;
        marked = newest.marked;
        names = get_or-set_other ids slot taken x 0 other ∙ newest.names;
        passed = newest.passed;
      },
      free_slot_names hashes (set marks taken 0) ids n slot x (rw length-set some) free' rest,
    )

-- a new row in the first free slot of its search
pub with_newest : (hashes : ℕ → ℕ) (marks ids : List ℕ) (n slot : ℕ) → 0 < length marks → length ids ≡ length marks → IsFirstFree marks (hashes n) slot → IsTable hashes marks ids n → IsTable hashes (set marks slot (mark_of (hashes n))) (set ids slot n) (suc n)
with_newest hashes marks ids n slot some alike first t =
    let inside : slot < length marks = rw first.is (searched_in (length marks) (hashes n) first.at some first.within) in
    let m = mark_of (hashes n) in
    let same = length-set marks slot m in
    let back : set (set marks slot m) slot 0 ≡ marks =
    set-set marks slot m 0 ∙ (rw (← first.free) (set-get_or marks slot 0)) in
    let within_ids : slot < length ids = omega arith in (
      slot,
      record {
        at = first.at;
        within = rw same first.within;
        is = rw same first.is;
        marked = get_or-set_same marks slot m 0 inside;
        names = get_or-set_same ids slot n 0 within_ids;
        passed = rw back first.passed;
      },
      rw back (free_slot_names hashes marks ids n slot n some first.free t),
    )

-- without its newest row
pub without_newest : (hashes : ℕ → ℕ) (marks ids left : List ℕ) (n : ℕ) → 0 < length marks → IsTakenAway marks ids n left → IsTable hashes marks ids (suc n) → IsTable hashes left ids n
without_newest hashes marks ids left n some away (slot, newest, rest) =
    let inside = newest_inside marks ids (hashes n) n slot some newest in
    elim (cases_eq away.slot slot) [
      | inl e ↦ rw (away.is, e) rest
      | inr ne ↦
          let still : 0 < get_or (set marks slot 0) away.slot 0 = rw get_or-set_other away.taken in
          let below = named_below hashes (set marks slot 0) ids n (rw length-set some) rest away.slot still in
          absurd (omega (arith, below, away.names))
    ]

-- the newest row is named
pub newest_named : (hashes : ℕ → ℕ) (marks ids : List ℕ) (n : ℕ) → 0 < length marks → IsTable hashes marks ids (suc n) → IsNamed marks ids (hashes n) n
newest_named hashes marks ids n some t =
    let r = reached hashes marks ids (suc n) some t n (omega arith) in
    record { at = r.at; within = r.within; taken = rw r.marked (mark_of-positive (hashes n)); names = r.names }

-- a table is that of its rows alone
pub same_below : (hashes others : ℕ → ℕ) (marks ids : List ℕ) (n : ℕ) → ((k : ℕ) → k < n → hashes k ≡ others k) → IsTable hashes marks ids n → IsTable others marks ids n
same_below hashes others marks ids zero agree t = t
same_below hashes others marks ids (suc n) agree (slot, newest, rest) = (
  slot,
  (let P : ℕ → Type 0 = λ h. IsNewest h marks ids n slot in subst P (agree n (omega arith)) newest),
  same_below hashes others (set marks slot 0) ids n (λ k h. agree k (omega arith)) rest,
)

pub no_rows : (hashes : ℕ → ℕ) (ids : List ℕ) (size : ℕ) → IsTable hashes (replicate size 0) ids 0
no_rows hashes ids size i h = get_or-replicate size i 0 0 (rw length-replicate at h)
