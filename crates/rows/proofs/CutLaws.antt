-- Rows without the last, which are what they were before it came.
use Rattle.std.proofs.Common.{◌≡◌, ℕ, ◌≤◌, List, [], ◌∷◌, ◌++◌, length, take, sym, ◌∙◌, ap, arith, Some, IsSome}
use Rattle.std.specs.Prelude.{slice_get}
use Rattle.std.proofs.lemmas.Option.{slice_get_within}
use Rattle.std.proofs.lemmas.List.{take-append-le, length-take-le, take-take}
use Rattle.std.proofs.lemmas.List.Sums.{sum_by_push}
use Rattle.trees.specs.Things.{Thing, ASubst}
use Rattle.rows.specs.declared.held.Held.{Held}
use Rattle.rows.specs.declared.held.Held.TheVariants as held
use Rattle.rows.specs.declared.held.HeldSub.{HeldSub}
use Rattle.rows.specs.Held.{held_meaning, thing_of, things_of, kid_cells, sub_cells, kids_held, subs_held, AreHeld}
use Rattle.rows.proofs.TableLaws.{built-push, length-built, slice_get-prefix, slice_get-same, take-prefix}
use Rattle.rows.proofs.HeldLaws.{ArePlaced, sub-within, meaning-alike, things-alike}

module _ (rows : List Held) (r : Held) (kids kids' : List ℕ) (subs subs' : List HeldSub) (h : AreHeld (rows ++ r ∷ []) kids subs) (kids_cut : kids' ≡ take (kids_held rows) kids) (subs_cut : subs' ≡ take (subs_held rows) subs) where
  rows_before : (k : ℕ) → k ≤ length rows → take k (rows ++ r ∷ []) ≡ take k rows
  rows_before k le = take-append-le k rows (r ∷ []) le

  placed : ArePlaced rows
  placed = record {
    kids_placed = λ k op at is. h.kids_placed k op at (slice_get-prefix rows (r ∷ []) k (held.Make op at) is) ∙ ap kids_held (rows_before k (let lt = slice_get_within rows k (held.Make op at) is in omega arith));
    subs_placed = λ k at is. h.subs_placed k at (slice_get-prefix rows (r ∷ []) k (held.Subst at) is) ∙ ap subs_held (rows_before k (let lt = slice_get_within rows k (held.Subst at) is in omega arith));
  }

  prefix_kids : take (kids_held rows) kids ≡ take (kids_held rows) kids'
  prefix_kids = sym (ap (take (kids_held rows)) kids_cut ∙ take-take (kids_held rows) (kids_held rows) kids (omega arith))

  prefix_subs : take (subs_held rows) subs ≡ take (subs_held rows) subs'
  prefix_subs = sym (ap (take (subs_held rows)) subs_cut ∙ take-take (subs_held rows) (subs_held rows) subs (omega arith))

  same : things_of rows kids subs ≡ things_of rows kids' subs'
  same = things-alike rows placed kids kids' subs subs' prefix_kids prefix_subs

  last_thing : Thing
  last_thing = thing_of kids subs (things_of rows kids subs) r

  -- the things of all rows are those of the first, and one more
  whole : things_of (rows ++ r ∷ []) kids subs ≡ things_of rows kids' subs' ++ last_thing ∷ []
  unfolding last_thing
  whole = built-push (thing_of kids subs) rows r ∙ ap (λ xs. xs ++ thing_of kids subs (things_of rows kids subs) r ∷ []) same

  count : length (things_of rows kids' subs') ≡ length rows
  count = length-built (thing_of kids' subs') rows

  pub things-cut : things_of rows kids' subs' ≡ take (length rows) (things_of (rows ++ r ∷ []) kids subs)
  things-cut =
      let n : length rows ≡ length (things_of rows kids' subs') = sym count in
      sym (ap (take (length rows)) whole ∙ ap (λ m. take m (things_of rows kids' subs' ++ last_thing ∷ [])) n ∙ take-prefix (things_of rows kids' subs') (last_thing ∷ []))

  before : (k : ℕ) → k ≤ length rows → take k (things_of (rows ++ r ∷ []) kids subs) ≡ take k (things_of rows kids' subs')
  before k le = ap (take k) whole ∙ take-append-le k (things_of rows kids' subs') (last_thing ∷ []) (omega (arith, count))

  mean : (k : ℕ) (q : Held) → slice_get rows k ≡ Some q → IsSome (held_meaning (slice_get (take k (things_of rows kids' subs'))) kids' subs' q)
  mean k q is =
      let lt = slice_get_within rows k q is in
      let e = before k (omega arith) in
      rw (← e, ← meaning-alike rows placed kids kids' subs subs' prefix_kids prefix_subs (slice_get (take k (things_of (rows ++ r ∷ []) kids subs))) k q is) (h.mean k q (slice_get-prefix rows (r ∷ []) k q is))

  pub held-cut : AreHeld rows kids' subs'
  held-cut =
      let kids_sum = sum_by_push kid_cells rows r in
      let subs_sum = sum_by_push sub_cells rows r in
      let kids_all = h.kids_full in
      let subs_all = h.subs_full in
      record {
        mean = mean;
        kids_full = ap length kids_cut ∙ length-take-le (kids_held rows) kids (omega arith);
        subs_full = ap length subs_cut ∙ length-take-le (subs_held rows) subs (omega arith);
        kids_placed = placed.kids_placed;
        subs_placed = placed.subs_placed;
        sized = λ k at s d is there thing.
            h.sized k at s d (slice_get-prefix rows (r ∷ []) k (held.Subst at) is)
            (slice_get-same (subs_held rows) at subs subs' (sub-within rows placed k at is) prefix_subs ∙ there)
            (ap (λ xs. slice_get xs k) whole ∙ slice_get-prefix (things_of rows kids' subs') (last_thing ∷ []) k (ASubst d) thing);
      }
