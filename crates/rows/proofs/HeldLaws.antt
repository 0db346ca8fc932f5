-- Rows that are held: what a row that is read means, and what one more row adds.
use Rattle.std.proofs.Common.{◌≡◌, ℕ, ◌+◌, ◌<◌, ◌≤◌, List, [], ◌∷◌, ◌++◌, length, take, refl, sym, ◌∙◌, ap, ap₂, arith, Some, IsSome, subst, length-append, inl, inr}
use Rattle.std.specs.Prelude.{slice_get, unwrap_or, option_and_then}
use Rattle.std.specs.List.{All}
use Rattle.std.proofs.lemmas.List.{take-append-le, take_all}
use Rattle.std.proofs.lemmas.List.Sums.{sum_by_push}
use Rattle.std.proofs.lemmas.List.Elements.{All-weaker}
use Rattle.trees.specs.declared.op.Op.{Op}
use Rattle.trees.specs.Operators.{kids_of}
use Rattle.trees.specs.Trees.{Subst}
use Rattle.trees.specs.Judgements.{Nil}
use Rattle.trees.specs.Things.{Thing, ASubst, AContext, Meanings, Kept, kind_of, made, meanings}
use Rattle.rows.specs.declared.held.Held.{Held}
use Rattle.rows.specs.declared.held.Held.TheVariants as held
use Rattle.rows.specs.declared.held.HeldSub.{HeldSub}
use Rattle.rows.specs.Held.{held_meaning, held_sub_meaning, kind_held, thing_of, things_of, kid_cells, sub_cells, kids_held, subs_held, IsHeldSize, AreHeld}
use Rattle.rows.proofs.TableLaws.{built-push, built-at, built-same, length-built, slice_get-take, slice_get-push, slice_get-same, sum_by-at, part-same}
use Rattle.rows.proofs.MeaningLaws.{is_some-value, held_meaning-kept, held_meaning-kind, held_names, held_names-mean, Mean}

-- where the rows' kids and substitutions stand
pub record ArePlaced (rows : List Held) : Type 0 where
  pub kids_placed : (k : ℕ) (op : Op) (at : ℕ) → slice_get rows k ≡ Some (held.Make op at) → at ≡ kids_held (take k rows)
  pub subs_placed : (k at : ℕ) → slice_get rows k ≡ Some (held.Subst at) → at ≡ subs_held (take k rows)

pub are_placed : (rows : List Held) (kids : List ℕ) (subs : List HeldSub) → AreHeld rows kids subs → ArePlaced rows
are_placed rows kids subs h = record { kids_placed = h.kids_placed; subs_placed = h.subs_placed }

-- kids end within those of all rows
pub kids-within : (rows : List Held) → ArePlaced rows → (k : ℕ) (op : Op) (at : ℕ) → slice_get rows k ≡ Some (held.Make op at) → at + kids_of op ≤ kids_held rows
kids-within rows p k op at is =
    let e = p.kids_placed k op at is in
    let h = sum_by-at kid_cells rows k (held.Make op at) is in
    omega arith

pub kids-there : (rows : List Held) (kids : List ℕ) (subs : List HeldSub) → AreHeld rows kids subs → (k : ℕ) (op : Op) (at : ℕ) → slice_get rows k ≡ Some (held.Make op at) → at + kids_of op ≤ length kids
kids-there rows kids subs h k op at is =
    let end = kids-within rows (are_placed rows kids subs h) k op at is in
    omega (arith, h.kids_full)

pub sub-within : (rows : List Held) → ArePlaced rows → (k at : ℕ) → slice_get rows k ≡ Some (held.Subst at) → at < subs_held rows
sub-within rows p k at is =
    let e = p.subs_placed k at is in
    let h = sum_by-at sub_cells rows k (held.Subst at) is in
    omega arith

-- Beside other kids and substitutions that begin as these do, rows mean what they mean beside these.
module _ (rows : List Held) (p : ArePlaced rows) (kids kids' : List ℕ) (subs subs' : List HeldSub) (same_kids : take (kids_held rows) kids ≡ take (kids_held rows) kids') (same_subs : take (subs_held rows) subs ≡ take (subs_held rows) subs') where
  pub meaning-alike : (f : Meanings) (k : ℕ) (r : Held) → slice_get rows k ≡ Some r → held_meaning f kids subs r ≡ held_meaning f kids' subs' r
  meaning-alike f k (held.Var i) is = refl
  meaning-alike f k (held.Make op at) is =
      ap (λ ks. option_and_then (made op) (meanings f ks)) (part-same (kids_held rows) at (kids_of op) kids kids' (kids-within rows p k op at is) same_kids)
  meaning-alike f k (held.Instance t d) is = refl
  meaning-alike f k (held.Subst at) is =
      ap (held_sub_meaning f) (slice_get-same (subs_held rows) at subs subs' (sub-within rows p k at is) same_subs)
  meaning-alike f k held.CtxNil is = refl
  meaning-alike f k (held.CtxVar G A) is = refl
  meaning-alike f k (held.CtxName G) is = refl
  meaning-alike f k (held.CtxFace G q) is = refl

  pub things-alike : things_of rows kids subs ≡ things_of rows kids' subs'
  things-alike =
      built-same (thing_of kids subs) (thing_of kids' subs') rows
      (λ k r is xs. ap (λ o. unwrap_or o (AContext Nil)) (meaning-alike (slice_get xs) k r is))

-- the thing of a row that means something
thing_of-some : (kids : List ℕ) (subs : List HeldSub) (known : List Thing) (r : Held) (x : Thing) → held_meaning (slice_get known) kids subs r ≡ Some x → thing_of kids subs known r ≡ x
thing_of-some kids subs known r x is = ap (λ o. unwrap_or o (AContext Nil)) is

-- what a row that is read means, and that the rows that it names stand before it
pub record MeansThere (rows : List Held) (kids : List ℕ) (subs : List HeldSub) (k : ℕ) (r : Held) : Type 0 where
  pub thing : Thing
  pub at : slice_get (things_of rows kids subs) k ≡ Some thing
  pub means : held_meaning (slice_get (things_of rows kids subs)) kids subs r ≡ Some thing
  pub earlier : All (λ j. j < k) (held_names kids subs r)
  pub kind : kind_of thing ≡ kind_held r

pub means_there : (rows : List Held) (kids : List ℕ) (subs : List HeldSub) → AreHeld rows kids subs → (k : ℕ) (r : Held) → slice_get rows k ≡ Some r → MeansThere rows kids subs k r
means_there rows kids subs h k r is =
    let all = things_of rows kids subs in
    let prefix = take k all in
    let x = is_some-value (held_meaning (slice_get prefix) kids subs r) (h.mean k r is) in
    let kept : Kept (slice_get prefix) (slice_get all) = record { keeps = λ j y e. (slice_get-take k all j y e).1 } in
    let means = held_meaning-kept (slice_get prefix) (slice_get all) kept kids subs r x.0 x.1 in
    record {
      thing = x.0;
      at = built-at (thing_of kids subs) rows k r is ∙ ap Some (thing_of-some kids subs prefix r x.0 x.1);
      means = means;
      earlier = All-weaker (Mean (slice_get prefix)) (λ j. j < k) (λ j y. (slice_get-take k all j y.0 y.1).0) (held_names kids subs r) (held_names-mean (slice_get prefix) kids subs r x.0 x.1);
      kind = held_meaning-kind (slice_get all) kids subs r x.0 means;
    }

-- what one more row brings
pub record Brings (rows : List Held) (kids : List ℕ) (subs : List HeldSub) (r : Held) (kids' : List ℕ) (subs' : List HeldSub) (x : Thing) : Type 0 where
  pub more_kids : List ℕ
  pub kids_are : kids' ≡ kids ++ more_kids
  pub kids_count : length more_kids ≡ kid_cells r
  pub kids_at_end : (op : Op) (at : ℕ) → r ≡ held.Make op at → at ≡ length kids
  pub more_subs : List HeldSub
  pub subs_are : subs' ≡ subs ++ more_subs
  pub subs_count : length more_subs ≡ sub_cells r
  pub subs_at_end : (at : ℕ) → r ≡ held.Subst at → at ≡ length subs
  pub means : held_meaning (slice_get (things_of rows kids subs)) kids' subs' r ≡ Some x
  pub sized : (at : ℕ) (s : HeldSub) (d : Subst) → r ≡ held.Subst at → slice_get subs' at ≡ Some s → x ≡ ASubst d → IsHeldSize (length rows) d s.size

-- rows with one more
module _ (rows : List Held) (kids : List ℕ) (subs : List HeldSub) (h : AreHeld rows kids subs) (r : Held) (kids' : List ℕ) (subs' : List HeldSub) (x : Thing) (b : Brings rows kids subs r kids' subs' x) where
  prefix_kids : take (kids_held rows) kids ≡ take (kids_held rows) kids'
  prefix_kids = sym (ap (take (kids_held rows)) b.kids_are ∙ take-append-le (kids_held rows) kids b.more_kids (omega (arith, h.kids_full)))

  prefix_subs : take (subs_held rows) subs ≡ take (subs_held rows) subs'
  prefix_subs = sym (ap (take (subs_held rows)) b.subs_are ∙ take-append-le (subs_held rows) subs b.more_subs (omega (arith, h.subs_full)))

  same : things_of rows kids' subs' ≡ things_of rows kids subs
  same = sym (things-alike rows (are_placed rows kids subs h) kids kids' subs subs' prefix_kids prefix_subs)

  pub things-added : things_of (rows ++ r ∷ []) kids' subs' ≡ things_of rows kids subs ++ x ∷ []
  things-added =
      built-push (thing_of kids' subs') rows r
      ∙ ap (λ xs. xs ++ thing_of kids' subs' xs r ∷ []) same
      ∙ ap (λ y. things_of rows kids subs ++ y ∷ []) (thing_of-some kids' subs' (things_of rows kids subs) r x b.means)

  count : length (things_of rows kids subs) ≡ length rows
  count = length-built (thing_of kids subs) rows

  -- the things before an old row, and before the new one
  before : (k : ℕ) → k ≤ length rows → take k (things_of (rows ++ r ∷ []) kids' subs') ≡ take k (things_of rows kids subs)
  before k le = ap (take k) things-added ∙ take-append-le k (things_of rows kids subs) (x ∷ []) (omega (arith, count))

  all_before : take (length rows) (things_of rows kids subs) ≡ things_of rows kids subs
  all_before = take_all (length rows) (things_of rows kids subs) (omega (arith, count))

  rows_before : (k : ℕ) → k ≤ length rows → take k (rows ++ r ∷ []) ≡ take k rows
  rows_before k le = take-append-le k rows (r ∷ []) le

  mean : (k : ℕ) (q : Held) → slice_get (rows ++ r ∷ []) k ≡ Some q → IsSome (held_meaning (slice_get (take k (things_of (rows ++ r ∷ []) kids' subs'))) kids' subs' q)
  mean k q is = elim (slice_get-push rows r k q is) [ inl old ↦ earlier old.0 old.1 | inr new ↦ last new.0 new.1 ]
    where
      earlier : k < length rows → slice_get rows k ≡ Some q → IsSome (held_meaning (slice_get (take k (things_of (rows ++ r ∷ []) kids' subs'))) kids' subs' q)
      earlier lt there =
          let e = before k (omega arith) in
          rw (e, ← meaning-alike rows (are_placed rows kids subs h) kids kids' subs subs' prefix_kids prefix_subs (slice_get (take k (things_of rows kids subs))) k q there) (h.mean k q there)

      last : k ≡ length rows → r ≡ q → IsSome (held_meaning (slice_get (take k (things_of (rows ++ r ∷ []) kids' subs'))) kids' subs' q)
      last place is_it =
          let e = before k (omega arith) in
          let all : take k (things_of rows kids subs) ≡ things_of rows kids subs = ap (λ n. take n (things_of rows kids subs)) place ∙ all_before in
          rw (e, all, ← is_it, b.means) refl

  kids_placed : (k : ℕ) (op : Op) (at : ℕ) → slice_get (rows ++ r ∷ []) k ≡ Some (held.Make op at) → at ≡ kids_held (take k (rows ++ r ∷ []))
  kids_placed k op at is = elim (slice_get-push rows r k (held.Make op at) is) [ inl old ↦ earlier old.0 old.1 | inr new ↦ last new.0 new.1 ]
    where
      earlier : k < length rows → slice_get rows k ≡ Some (held.Make op at) → at ≡ kids_held (take k (rows ++ r ∷ []))
      earlier lt there = h.kids_placed k op at there ∙ sym (ap kids_held (rows_before k (omega arith)))

      last : k ≡ length rows → r ≡ held.Make op at → at ≡ kids_held (take k (rows ++ r ∷ []))
      last place is_it = b.kids_at_end op at is_it ∙ h.kids_full ∙ sym (ap kids_held (rows_before k (omega arith) ∙ take_all k rows (omega arith)))

  subs_placed : (k at : ℕ) → slice_get (rows ++ r ∷ []) k ≡ Some (held.Subst at) → at ≡ subs_held (take k (rows ++ r ∷ []))
  subs_placed k at is = elim (slice_get-push rows r k (held.Subst at) is) [ inl old ↦ earlier old.0 old.1 | inr new ↦ last new.0 new.1 ]
    where
      earlier : k < length rows → slice_get rows k ≡ Some (held.Subst at) → at ≡ subs_held (take k (rows ++ r ∷ []))
      earlier lt there = h.subs_placed k at there ∙ sym (ap subs_held (rows_before k (omega arith)))

      last : k ≡ length rows → r ≡ held.Subst at → at ≡ subs_held (take k (rows ++ r ∷ []))
      last place is_it = b.subs_at_end at is_it ∙ h.subs_full ∙ sym (ap subs_held (rows_before k (omega arith) ∙ take_all k rows (omega arith)))

  sized : (k at : ℕ) (s : HeldSub) (d : Subst) → slice_get (rows ++ r ∷ []) k ≡ Some (held.Subst at) → slice_get subs' at ≡ Some s → slice_get (things_of (rows ++ r ∷ []) kids' subs') k ≡ Some (ASubst d) → IsHeldSize k d s.size
  sized k at s d is there thing = elim (slice_get-push rows r k (held.Subst at) is) [ inl old ↦ earlier old.0 old.1 | inr new ↦ last new.0 new.1 ]
    where
      pushed : slice_get (things_of rows kids subs ++ x ∷ []) k ≡ Some (ASubst d)
      pushed = ap (λ xs. slice_get xs k) (sym things-added) ∙ thing

      earlier : k < length rows → slice_get rows k ≡ Some (held.Subst at) → IsHeldSize k d s.size
      earlier lt old =
          h.sized k at s d old
          (slice_get-same (subs_held rows) at subs subs' (sub-within rows (are_placed rows kids subs h) k at old) prefix_subs ∙ there)
          (elim (slice_get-push (things_of rows kids subs) x k (ASubst d) pushed) [ inl t ↦ t.1 | inr t ↦ absurd (omega (arith, count, t.0)) ])

      last : k ≡ length rows → r ≡ held.Subst at → IsHeldSize k d s.size
      last place is_it =
          subst (λ n. IsHeldSize n d s.size) (sym place)
          (b.sized at s d is_it there
          (elim (slice_get-push (things_of rows kids subs) x k (ASubst d) pushed) [ inl t ↦ absurd (omega (arith, count, t.0)) | inr t ↦ t.1 ]))

  pub held-added : AreHeld (rows ++ r ∷ []) kids' subs'
  held-added = record {
    mean = mean;
    kids_full = ap length b.kids_are ∙ length-append kids b.more_kids ∙ ap₂ ◌+◌ h.kids_full b.kids_count ∙ sym (sum_by_push kid_cells rows r);
    subs_full = ap length b.subs_are ∙ length-append subs b.more_subs ∙ ap₂ ◌+◌ h.subs_full b.subs_count ∙ sym (sum_by_push sub_cells rows r);
    kids_placed = kids_placed;
    subs_placed = subs_placed;
    sized = sized;
  }
