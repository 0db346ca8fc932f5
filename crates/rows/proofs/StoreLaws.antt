-- What a store's rows mean after a row is added, the last is dropped, or one is read.
use Rattle.std.proofs.Common.{◌≡◌, ℕ, suc, ◌+◌, ◌-◌, ◌^◌, min, ◌<◌, ◌≤◌, List, [], ◌∷◌, ◌++◌, length, take, drop, get_or, refl, sym, ◌∙◌, ap, ap₂, arith, Option, Some, None, IsSome, IsTrue, Bool, true, false, subst, length-append, cond}
use Rattle.std.specs.Prelude.{slice_get, option_and_then}
use Rattle.std.specs.List.{All}
use Rattle.std.proofs.lemmas.Option.{slice_get_within, slice_get_read}
use Rattle.std.proofs.lemmas.List.{append-nil, take_all}
use Rattle.std.proofs.lemmas.List.Sums.{sum_by_push}
use Rattle.std.proofs.Math.Seq.{drop-append_seam}
use Rattle.trees.specs.declared.op.Op.{Op}
use Rattle.trees.specs.Operators.{kids_of}
use Rattle.trees.specs.Trees.{count_of, greatest_shift}
use Rattle.trees.specs.Things.{Thing, ATree, ASubst, AContext, Meanings, both, pushed_on, then_of, Kept, kind_of, made, meanings}
use Rattle.rows.specs.declared.held.Held.{Held}
use Rattle.rows.specs.declared.held.Held.TheVariants as held
use Rattle.rows.specs.declared.held.HeldSub.{HeldSub}
use Rattle.rows.specs.declared.held.HeldSize.{HeldSize}
use Rattle.substitution.proofs.ShiftBounds.{shift-then, count_of-then}
use Rattle.rows.specs.Views.{IsSubst, ShiftAtMost}
use Rattle.rows.specs.Counts.{most_counted}
use Rattle.rows.proofs.CountLaws.{count_held-is, is-count_held, count_held-push, count_held-then, past-held}
use Rattle.rows.specs.Held.{held_meaning, held_row_meaning, held_row_names, held_sub_meaning, kids_at, kind_held, thing_of, things_of, kid_cells, sub_cells, kids_held, subs_held, is_alone, IsHeldSize, IsSizeAt, AreHeld}
use Rattle.rows.proofs.TableLaws.{length-built, slice_get-next, slice_get-prefix}
use Rattle.rows.proofs.OptionLaws.{both-some}
use Rattle.rows.proofs.MeaningLaws.{is_some-value, made-count, held_sub_names}
use Rattle.rows.proofs.HeldLaws.{Brings, held-added, things-added, means_there, are_placed, sub-within}
use Rattle.rows.proofs.CutLaws.{held-cut, things-cut}

-- the row was added
pub record Added (rows : List Held) (kids : List ℕ) (subs : List HeldSub) (rows' : List Held) (kids' : List ℕ) (subs' : List HeldSub) (meaning : Option Thing) : Type 0 where
  pub held : AreHeld rows' kids' subs'
  pub thing : Thing
  pub is : meaning ≡ Some thing
  pub grown : things_of rows' kids' subs' ≡ things_of rows kids subs ++ thing ∷ []

added : (rows : List Held) (kids : List ℕ) (subs : List HeldSub) → AreHeld rows kids subs → (r : Held) (rows' : List Held) (kids' : List ℕ) (subs' : List HeldSub) (meaning : Option Thing) (x : Thing) → meaning ≡ Some x → Brings rows kids subs r kids' subs' x → rows' ≡ rows ++ r ∷ [] → Added rows kids subs rows' kids' subs' meaning
added rows kids subs h r rows' kids' subs' meaning x is b are = record {
  held = subst (λ qs. AreHeld qs kids' subs') (sym are) (held-added rows kids subs h r kids' subs' x b);
  thing = x;
  is = is;
  grown = ap (λ qs. things_of qs kids' subs') are ∙ things-added rows kids subs h r kids' subs' x b;
}

pub kept-added : (rows : List Held) (kids : List ℕ) (subs : List HeldSub) (rows' : List Held) (kids' : List ℕ) (subs' : List HeldSub) (meaning : Option Thing) → Added rows kids subs rows' kids' subs' meaning → Kept (slice_get (things_of rows kids subs)) (slice_get (things_of rows' kids' subs'))
kept-added rows kids subs rows' kids' subs' meaning a = record {
  keeps = λ k x e. ap (λ xs. slice_get xs k) a.grown ∙ slice_get-prefix (things_of rows kids subs) (a.thing ∷ []) k x e;
}

pub means-added : (rows : List Held) (kids : List ℕ) (subs : List HeldSub) (rows' : List Held) (kids' : List ℕ) (subs' : List HeldSub) (meaning : Option Thing) (at : ℕ) → Added rows kids subs rows' kids' subs' meaning → at ≡ length rows → slice_get (things_of rows' kids' subs') at ≡ meaning
means-added rows kids subs rows' kids' subs' meaning at a place =
    ap₂ slice_get a.grown (place ∙ sym (length-built (thing_of kids subs) rows))
    ∙ slice_get-next (things_of rows kids subs) [] a.thing
    ∙ sym a.is

-- a row that holds nothing beside it
alone-meaning : (f : Meanings) (kids : List ℕ) (subs : List HeldSub) (r : Held) → IsTrue (is_alone r) → held_meaning f kids subs r ≡ held_meaning f [] [] r
alone-meaning f kids subs (held.Var k) alone = refl
alone-meaning f kids subs (held.Make op at) alone = cc
alone-meaning f kids subs (held.Instance t d) alone = refl
alone-meaning f kids subs (held.Subst at) alone = cc
alone-meaning f kids subs held.CtxNil alone = refl
alone-meaning f kids subs (held.CtxVar G A) alone = refl
alone-meaning f kids subs (held.CtxName G) alone = refl
alone-meaning f kids subs (held.CtxFace G p) alone = refl

alone-cells : (r : Held) → IsTrue (is_alone r) → (0 ≡ kid_cells r) × (0 ≡ sub_cells r)
alone-cells (held.Var k) alone = (refl, refl)
alone-cells (held.Make op at) alone = cc
alone-cells (held.Instance t d) alone = (refl, refl)
alone-cells (held.Subst at) alone = cc
alone-cells held.CtxNil alone = (refl, refl)
alone-cells (held.CtxVar G A) alone = (refl, refl)
alone-cells (held.CtxName G) alone = (refl, refl)
alone-cells (held.CtxFace G p) alone = (refl, refl)

pub added-alone : (rows : List Held) (kids : List ℕ) (subs : List HeldSub) (r : Held) (rows' : List Held) → AreHeld rows kids subs → IsTrue (is_alone r) → IsSome (held_meaning (slice_get (things_of rows kids subs)) [] [] r) → rows' ≡ rows ++ r ∷ [] → Added rows kids subs rows' kids subs (held_meaning (slice_get (things_of rows kids subs)) [] [] r)
added-alone rows kids subs r rows' h alone some are =
    let f = slice_get (things_of rows kids subs) in
    let x = is_some-value (held_meaning f [] [] r) some in
    let cells = alone-cells r alone in
    added rows kids subs h r rows' kids subs (held_meaning f [] [] r) x.0 x.1
    (record {
      more_kids = [];
      kids_are = sym (append-nil kids);
      kids_count = cells.0;
      kids_at_end = λ op at e. let a = ap is_alone e in cc;
      more_subs = [];
      subs_are = sym (append-nil subs);
      subs_count = cells.1;
      subs_at_end = λ at e. let a = ap is_alone e in cc;
      means = alone-meaning f kids subs r alone ∙ x.1;
      sized = λ at s d e there is. let a = ap is_alone e in cc;
    })
    are

-- whether it was added or not
pub held-alone : (ok : Bool) (rows : List Held) (kids : List ℕ) (subs : List HeldSub) (r : Held) → AreHeld rows kids subs → IsTrue (is_alone r) → IsSome (held_meaning (slice_get (things_of rows kids subs)) [] [] r) → AreHeld (cond ok (rows ++ r ∷ []) rows) kids subs
held-alone true rows kids subs r h alone some = (added-alone rows kids subs r (rows ++ r ∷ []) h alone some refl).held
held-alone false rows kids subs r h alone some = h

-- a row of an operator, whose kids stand at the end of the others
pub added-make : (rows : List Held) (kids : List ℕ) (subs : List HeldSub) (op : Op) (at : ℕ) (ks : List ℕ) (rows' : List Held) (kids' : List ℕ) → AreHeld rows kids subs → IsSome (option_and_then (made op) (meanings (slice_get (things_of rows kids subs)) ks)) → at ≡ length kids → kids' ≡ kids ++ ks → rows' ≡ rows ++ held.Make op at ∷ [] → Added rows kids subs rows' kids' subs (option_and_then (made op) (meanings (slice_get (things_of rows kids subs)) ks))
added-make rows kids subs op at ks rows' kids' h some place kids_are are =
    let f = slice_get (things_of rows kids subs) in
    let x = is_some-value (option_and_then (made op) (meanings f ks)) some in
    let count = made-count f op ks some in
    let part : kids_at kids' (kids_of op) at ≡ ks = ap₂ (λ n zs. take n (drop at zs)) (sym count) kids_are ∙ ap (λ i. take (length ks) (drop i (kids ++ ks))) place ∙ ap (take (length ks)) (drop-append_seam kids ks) ∙ take_all (length ks) ks (omega arith) in
    added rows kids subs h (held.Make op at) rows' kids' subs (option_and_then (made op) (meanings f ks)) x.0 x.1
    (record {
      more_kids = ks;
      kids_are = kids_are;
      kids_count = count;
      kids_at_end = λ o i e. let same : at ≡ i = cc in sym same ∙ place;
      more_subs = [];
      subs_are = sym (append-nil subs);
      subs_count = refl;
      subs_at_end = λ i e. cc;
      means = ap (λ zs. option_and_then (made op) (meanings f zs)) part ∙ x.1;
      sized = λ i s d e there is. cc;
    })
    are

-- a row of a substitution, which stands at the end of the others
pub added-sub : (rows : List Held) (kids : List ℕ) (subs : List HeldSub) (s : HeldSub) (at : ℕ) (rows' : List Held) (subs' : List HeldSub) → AreHeld rows kids subs → IsSome (held_row_meaning (slice_get (things_of rows kids subs)) s.row) → IsSizeAt (length (things_of rows kids subs)) (held_row_meaning (slice_get (things_of rows kids subs)) s.row) s.size → at ≡ length subs → subs' ≡ subs ++ s ∷ [] → rows' ≡ rows ++ held.Subst at ∷ [] → Added rows kids subs rows' kids subs' (held_row_meaning (slice_get (things_of rows kids subs)) s.row)
added-sub rows kids subs s at rows' subs' h some sized place subs_are are =
    let f = slice_get (things_of rows kids subs) in
    let x = is_some-value (held_row_meaning f s.row) some in
    let there : slice_get subs' at ≡ Some s = ap₂ slice_get subs_are place ∙ slice_get-next subs [] s in
    let count = length-built (thing_of kids subs) rows in
    added rows kids subs h (held.Subst at) rows' kids subs' (held_row_meaning f s.row) x.0 x.1
    (record {
      more_kids = [];
      kids_are = sym (append-nil kids);
      kids_count = refl;
      kids_at_end = λ o i e. cc;
      more_subs = s ∷ [];
      subs_are = subs_are;
      subs_count = refl;
      subs_at_end = λ i e. let same : at ≡ i = cc in sym same ∙ place;
      means = ap (held_sub_meaning f) there ∙ x.1;
      sized = λ i q d e read is. (
          let same : at ≡ i = cc in
          let is_it : s ≡ q = cc in
          let size : IsHeldSize (length rows) d s.size = subst (λ o. IsSizeAt (length rows) o s.size) (x.1 ∙ ap Some is) (subst (λ n. IsSizeAt n (held_row_meaning f s.row) s.size) count sized) in
          subst (λ r. IsHeldSize (length rows) d r.size) is_it size);
    })
    are

-- the last row is dropped
pub record Dropped (all : List Held) (kids : List ℕ) (subs : List HeldSub) (rows : List Held) (kids' : List ℕ) (subs' : List HeldSub) : Type 0 where
  pub held : AreHeld rows kids' subs'
  pub things : things_of rows kids' subs' ≡ take (length (things_of all kids subs) - 1) (things_of all kids subs)

pub dropped : (all : List Held) (kids : List ℕ) (subs : List HeldSub) (rows : List Held) (r : Held) (kids' : List ℕ) (subs' : List HeldSub) → AreHeld all kids subs → all ≡ rows ++ r ∷ [] → kids' ≡ take (length kids - kid_cells r) kids → subs' ≡ take (length subs - sub_cells r) subs → Dropped all kids subs rows kids' subs'
dropped all kids subs rows r kids' subs' h are kids_cut subs_cut =
    let all_held : AreHeld (rows ++ r ∷ []) kids subs = subst (λ qs. AreHeld qs kids subs) are h in
    let kids_left : length kids - kid_cells r ≡ kids_held rows = omega (arith, all_held.kids_full, sum_by_push kid_cells rows r) in
    let subs_left : length subs - sub_cells r ≡ subs_held rows = omega (arith, all_held.subs_full, sum_by_push sub_cells rows r) in
    let cut_kids : kids' ≡ take (kids_held rows) kids = kids_cut ∙ ap (λ n. take n kids) kids_left in
    let cut_subs : subs' ≡ take (subs_held rows) subs = subs_cut ∙ ap (λ n. take n subs) subs_left in
    let count : length (things_of all kids subs) - 1 ≡ length rows = omega (arith, length-built (thing_of kids subs) all, ap length are, length-append rows (r ∷ [])) in
    record {
      held = held-cut rows r kids kids' subs subs' all_held cut_kids cut_subs;
      things =
          things-cut rows r kids kids' subs subs' all_held cut_kids cut_subs
          ∙ ap₂ (λ n qs. take n (things_of qs kids subs)) (sym count) (sym are);
    }

-- the cells of the last row are there
pub cells-there : (all : List Held) (kids : List ℕ) (subs : List HeldSub) (rows : List Held) (r : Held) → AreHeld all kids subs → all ≡ rows ++ r ∷ [] → (kid_cells r ≤ length kids) × (sub_cells r ≤ length subs)
cells-there all kids subs rows r h are =
    let k = ap kids_held are in
    let s = ap subs_held are in
    (omega (arith, h.kids_full, k, sum_by_push kid_cells rows r), omega (arith, h.subs_full, s, sum_by_push sub_cells rows r))

-- a substitution that is read
pub record SubThere (rows : List Held) (kids : List ℕ) (subs : List HeldSub) (k : ℕ) (s : HeldSub) : Type 0 where
  pub meaning : slice_get (things_of rows kids subs) k ≡ held_row_meaning (slice_get (things_of rows kids subs)) s.row
  pub earlier : All (λ j. j < k) (held_row_names s.row)
  pub size : IsSizeAt k (slice_get (things_of rows kids subs) k) s.size

pub sub_there : (rows : List Held) (kids : List ℕ) (subs : List HeldSub) → AreHeld rows kids subs → (k at : ℕ) (s : HeldSub) → slice_get rows k ≡ Some (held.Subst at) → s ≡ get_or subs at s → IsSubst (slice_get (things_of rows kids subs) k) → SubThere rows kids subs k s
sub_there rows kids subs h k at s is read is_subst =
    let f = slice_get (things_of rows kids subs) in
    let within = sub-within rows (are_placed rows kids subs h) k at is in
    let there : slice_get subs at ≡ Some s = slice_get_read subs (length subs) at s refl (omega (arith, h.subs_full)) read in
    let m = means_there rows kids subs h k (held.Subst at) is in
    record {
      meaning = m.at ∙ sym m.means ∙ ap (held_sub_meaning f) there;
      earlier = subst (λ o. All (λ j. j < k) (held_sub_names o)) there m.earlier;
      size = subst (λ o. IsSizeAt k o s.size) (sym is_subst.1) (h.sized k at s is_subst.0 is there is_subst.1);
    }

-- a row of another kind is not where a thing of this kind is
pub kind_there : (rows : List Held) (kids : List ℕ) (subs : List HeldSub) → AreHeld rows kids subs → (k : ℕ) (r : Held) (x : Thing) → slice_get rows k ≡ Some r → slice_get (things_of rows kids subs) k ≡ Some x → kind_of x ≡ kind_held r
kind_there rows kids subs h k r x is there =
    let m = means_there rows kids subs h k r is in
    let same : m.thing ≡ x = cc in
    ap kind_of (sym same) ∙ m.kind

-- the size of a substitution with one more tree
pub push_size : (i new : ℕ) (o p : Option Thing) (a r : HeldSize) → i < new → IsSome (both pushed_on o p) → IsSizeAt i o a → r.pushed ≡ min (a.pushed + 1) most_counted → r.shift ≡ a.shift → IsSizeAt new (both pushed_on o p) r
push_size i new (Some (ASubst d)) (Some (ATree t)) a r li fits size pushed shift =
    let h = count_held-push i new (count_of d.pushed) a.pushed li (count_held-is i (count_of d.pushed) a.pushed size.count) in
    record {
      count = rw pushed (is-count_held new (suc (count_of d.pushed)) (min (a.pushed + 1) most_counted) h);
      shift = size.shift ∙ sym shift;
    }
push_size i new (Some (ASubst d)) (Some (ASubst e)) a r li fits size pushed shift = cc
push_size i new (Some (ASubst d)) (Some (AContext G)) a r li fits size pushed shift = cc
push_size i new (Some (ASubst d)) None a r li fits size pushed shift = cc
push_size i new (Some (ATree t)) p a r li fits size pushed shift = absurd size
push_size i new (Some (AContext G)) p a r li fits size pushed shift = absurd size
push_size i new None p a r li fits size pushed shift = absurd size

-- the size of a substitution and then another
pub then_size : (i j new : ℕ) (o p : Option Thing) (a b r : HeldSize) → i < new → j < new → j < 2 ^ 64 → ShiftAtMost greatest_shift o → IsSizeAt i o a → IsSizeAt j p b → r.pushed ≡ min (a.pushed + (b.pushed - a.shift)) most_counted → r.shift ≡ b.shift + (a.shift - b.pushed) → IsSizeAt new (both then_of o p) r
then_size i j new (Some (ASubst d)) (Some (ASubst e)) a b r li lj few small first second pushed shift =
    let first_count = count_held-is i (count_of d.pushed) a.pushed first.count in
    let second_count = count_held-is j (count_of e.pushed) b.pushed second.count in
    let least : a.shift ≤ greatest_shift = omega (arith, first.shift, small) in
    record {
      count =
          let h = count_held-then i j new (count_of d.pushed) a.pushed (count_of e.pushed) b.pushed a.shift li lj least first_count second_count in
          rw (count_of-then d e, first.shift, pushed) (is-count_held new (count_of d.pushed + (count_of e.pushed - a.shift)) (min (a.pushed + (b.pushed - a.shift)) most_counted) h);
      shift =
          let past = past-held j (count_of e.pushed) b.pushed a.shift few least second_count in
          shift-then d e ∙ ap₂ (λ m n. m + (n - count_of e.pushed)) second.shift first.shift ∙ ap (λ n. b.shift + n) past ∙ sym shift;
    }
then_size i j new (Some (ASubst d)) (Some (ATree t)) a b r li lj few small first second pushed shift = second
then_size i j new (Some (ASubst d)) (Some (AContext G)) a b r li lj few small first second pushed shift = second
then_size i j new (Some (ASubst d)) None a b r li lj few small first second pushed shift = second
then_size i j new (Some (ATree t)) p a b r li lj few small first second pushed shift = absurd first
then_size i j new (Some (AContext G)) p a b r li lj few small first second pushed shift = absurd first
then_size i j new None p a b r li lj few small first second pushed shift = first

pub first-within : (xs : List Thing) (i j : ℕ) → IsSome (both pushed_on (slice_get xs i) (slice_get xs j)) → i < length xs
first-within xs i j some =
    let x = is_some-value (both pushed_on (slice_get xs i) (slice_get xs j)) some in
    let b = both-some pushed_on (slice_get xs i) (slice_get xs j) x.0 x.1 in
    slice_get_within xs i b.first b.first_is

pub both-within : (xs : List Thing) (i j : ℕ) → IsSome (both then_of (slice_get xs i) (slice_get xs j)) → (i < length xs) × (j < length xs)
both-within xs i j some =
    let x = is_some-value (both then_of (slice_get xs i) (slice_get xs j)) some in
    let b = both-some then_of (slice_get xs i) (slice_get xs j) x.0 x.1 in
    (slice_get_within xs i b.first b.first_is, slice_get_within xs j b.second b.second_is)

-- what has a shift is a substitution
pub shift-subst : (most : ℕ) (o : Option Thing) → ShiftAtMost most o → IsSubst o
shift-subst most (Some (ASubst d)) small = (d, refl)
shift-subst most (Some (ATree t)) small = absurd small
shift-subst most (Some (AContext G)) small = absurd small
shift-subst most None small = absurd small

pub shifts-follow : (most : ℕ) (o p : Option Thing) → ShiftAtMost most o → ShiftAtMost most p → IsSome (both then_of o p)
shifts-follow most o p first second =
    let d = shift-subst most o first in
    let e = shift-subst most p second in
    rw (d.1, e.1) cc
