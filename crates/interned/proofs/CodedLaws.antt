-- Rows of words: what one that stands there means, what one more adds, and the first of them.
use Rattle.std.proofs.Common.{◌≡◌, ℕ, zero, suc, ◌<◌, ◌≤◌, inl, inr, List, [], ◌∷◌, ◌++◌, length, take, drop, refl, sym, ◌∙◌, ap, subst, arith, Some, IsSome, Result, Ok, Err}
use Rattle.std.specs.Prelude.{slice_get, unwrap_or}
use Rattle.std.specs.List.{All}
use Rattle.std.specs.Result.{OnOk, OnErr}
use Rattle.std.proofs.lemmas.List.{take-append-le, take_all, take-append-drop, take-take}
use Rattle.std.proofs.lemmas.List.Elements.{All-weaker}
use Rattle.trees.specs.Judgements.{Nil}
use Rattle.trees.specs.Things.{Thing, AContext, Kept}
use Rattle.trees.proofs.Meanings.{kept-same}
use Rattle.region.specs.Held.{IsInterned}
use Rattle.rows.specs.Tables.{built_after, built}
use Rattle.rows.proofs.TableLaws.{after, built-at, built-push, length-built, slice_get-take, slice_get-push, slice_get-prefix, slice_get-next, slice_get-same, take-prefix}
use Rattle.rows.proofs.MeaningLaws.{is_some-value, Mean}
use Rattle.interned.specs.Coding.{thing_coded}
use Rattle.interned.specs.Coded.{thing_of, things_coded, IsSized, AreCoded, IsRowAt}
use Rattle.interned.proofs.CodingLaws.{thing_coded-kept}

-- the first of what is built is built of the first

built_after-append : {R X : Type 0} (make : List X → R → X) (known : List X) (rows more : List R) → built_after make known (rows ++ more) ≡ built_after make (built_after make known rows) more
built_after-append make known [] more = refl
built_after-append make known (row ∷ rows) more = built_after-append make (known ++ make known row ∷ []) rows more

pub built-take : {R X : Type 0} (make : List X → R → X) (n : ℕ) (rows : List R) → n ≤ length rows → built make (take n rows) ≡ take n (built make rows)
built-take make n rows within =
    let whole : built make rows ≡ built_after make (built make (take n rows)) (drop n rows) = ap (built make) (sym (take-append-drop n rows)) ∙ built_after-append make [] (take n rows) (drop n rows) in
    let rest = after make (built make (take n rows)) (drop n rows) in
    let count : length (built make (take n rows)) ≡ n = length-built make (take n rows) ∙ length-take n rows within in
    sym (ap (take n) (whole ∙ rest.split) ∙ ap (λ k. take k (built make (take n rows) ++ rest.more)) (sym count) ∙ take-prefix (built make (take n rows)) rest.more)
  where
    length-take : {R : Type 0} (n : ℕ) (rows : List R) → n ≤ length rows → length (take n rows) ≡ n
    length-take zero rows le = refl
    length-take (suc n) [] le = absurd (omega arith)
    length-take (suc n) (row ∷ rows) le = ap suc (length-take n rows (omega arith))

pub kept-take : (k : ℕ) (xs : List Thing) → Kept (slice_get (take k xs)) (slice_get xs)
kept-take k xs = record { keeps = λ j y e. (slice_get-take k xs j y e).1 }

-- what a row means that stands there
pub row_there : (rows : List (List ℕ)) → AreCoded rows → (k : ℕ) (words : List ℕ) → slice_get rows k ≡ Some words → IsRowAt (things_coded rows) k words
row_there rows h k words at =
    let all = things_coded rows in
    let x = is_some-value (thing_coded (slice_get (take k all)) words) (h.mean k words at) in
    let is : slice_get all k ≡ Some x.0 = built-at thing_of rows k words at ∙ ap (λ o. Some (unwrap_or o (AContext Nil))) x.1 in
    record {
      thing = x.0;
      is = is;
      means = thing_coded-kept (slice_get (take k all)) (slice_get all) (kept-take k all) words x.0 x.1;
      before = x.1;
      sized = subst (λ o. IsSized k o words) is (h.sized k words at);
    }

-- one row more
pub record RowAdded (rows : List (List ℕ)) (words : List ℕ) (rows' : List (List ℕ)) : Type 0 where
  pub coded : AreCoded rows'
  pub kept : Kept (slice_get (things_coded rows)) (slice_get (things_coded rows'))

module _ (rows : List (List ℕ)) (h : AreCoded rows) (words : List ℕ) (x : Thing) (means : thing_coded (slice_get (things_coded rows)) words ≡ Some x) (sized : IsSized (length rows) (Some x) words) where
  pub things-added : things_coded (rows ++ words ∷ []) ≡ things_coded rows ++ x ∷ []
  things-added = built-push thing_of rows words ∙ ap (λ o. things_coded rows ++ unwrap_or o (AContext Nil) ∷ []) means

  count : length (things_coded rows) ≡ length rows
  count = length-built thing_of rows

  before : (k : ℕ) → k ≤ length rows → take k (things_coded (rows ++ words ∷ [])) ≡ take k (things_coded rows)
  before k le = ap (take k) things-added ∙ take-append-le k (things_coded rows) (x ∷ []) (omega (arith, count))

  all_before : take (length rows) (things_coded rows) ≡ things_coded rows
  all_before = take_all (length rows) (things_coded rows) (omega (arith, count))

  mean : (k : ℕ) (others : List ℕ) → slice_get (rows ++ words ∷ []) k ≡ Some others → IsSome (thing_coded (slice_get (take k (things_coded (rows ++ words ∷ [])))) others)
  mean k others at = elim (slice_get-push rows words k others at) [ inl old ↦ earlier old.0 old.1 | inr new ↦ last new.0 new.1 ]
    where
      earlier : k < length rows → slice_get rows k ≡ Some others → IsSome (thing_coded (slice_get (take k (things_coded (rows ++ words ∷ [])))) others)
      earlier lt there = let e = before k (omega arith) in rw e (h.mean k others there)

      last : k ≡ length rows → words ≡ others → IsSome (thing_coded (slice_get (take k (things_coded (rows ++ words ∷ [])))) others)
      last place is =
          let e : take k (things_coded (rows ++ words ∷ [])) ≡ things_coded rows = before k (omega arith) ∙ ap (λ n. take n (things_coded rows)) place ∙ all_before in
          rw (e, ← is, means) refl

  sizes : (k : ℕ) (others : List ℕ) → slice_get (rows ++ words ∷ []) k ≡ Some others → IsSized k (slice_get (things_coded (rows ++ words ∷ [])) k) others
  sizes k others at = elim (slice_get-push rows words k others at) [ inl old ↦ earlier old.0 old.1 | inr new ↦ last new.0 new.1 ]
    where
      earlier : k < length rows → slice_get rows k ≡ Some others → IsSized k (slice_get (things_coded (rows ++ words ∷ [])) k) others
      earlier lt there =
          let r = row_there rows h k others there in
          let is : slice_get (things_coded (rows ++ words ∷ [])) k ≡ Some r.thing = ap (λ xs. slice_get xs k) things-added ∙ slice_get-prefix (things_coded rows) (x ∷ []) k r.thing r.is in
          subst (λ o. IsSized k o others) (sym is) r.sized

      last : k ≡ length rows → words ≡ others → IsSized k (slice_get (things_coded (rows ++ words ∷ [])) k) others
      last place same =
          let is : slice_get (things_coded (rows ++ words ∷ [])) k ≡ Some x = ap (λ xs. slice_get xs k) things-added ∙ ap (slice_get (things_coded rows ++ x ∷ [])) (place ∙ sym count) ∙ slice_get-next (things_coded rows) [] x in
          subst (λ o. IsSized k o others) (sym is) (subst (IsSized k (Some x)) same (subst (λ n. IsSized n (Some x) words) (sym place) sized))

  new_row : RowAdded rows words (rows ++ words ∷ [])
  new_row = record {
    coded = record { mean = mean; sized = sizes };
    kept = record { keeps = λ k y e. ap (λ xs. slice_get xs k) things-added ∙ slice_get-prefix (things_coded rows) (x ∷ []) k y e };
  }

  pub row_added : (rows' : List (List ℕ)) → IsInterned rows words rows' → RowAdded rows words rows'
  row_added rows' (inl old) = subst (RowAdded rows words) (sym old.1) (record { coded = h; kept = kept-same (slice_get (things_coded rows)) })
  row_added rows' (inr new) = subst (RowAdded rows words) (sym new.1) new_row

-- the row was interned, or memory ran out and the rows are as before
pub row_interned : {I E : Type 0} (r : Result I E) (rows : List (List ℕ)) → AreCoded rows → (words row : List ℕ) (rows' : List (List ℕ)) → IsSome (thing_coded (slice_get (things_coded rows)) words) → IsSized (length (things_coded rows)) (thing_coded (slice_get (things_coded rows)) words) words → row ≡ words → OnOk r (IsInterned rows row rows') → OnErr r (rows' ≡ rows) → RowAdded rows words rows'
row_interned (Ok id) rows h words row rows' some sized same new err =
    let x = is_some-value (thing_coded (slice_get (things_coded rows)) words) some in
    let here : IsSized (length rows) (Some x.0) words = subst (λ o. IsSized (length rows) o words) x.1 (subst (λ n. IsSized n (thing_coded (slice_get (things_coded rows)) words) words) (length-built thing_of rows) sized) in
    row_added rows h words x.0 x.1 here rows' (subst (λ w. IsInterned rows w rows') same new)
row_interned (Err e) rows h words row rows' some sized same new err =
    subst (RowAdded rows words) (sym err) (record { coded = h; kept = kept-same (slice_get (things_coded rows)) })

-- the row of the words means what they mean
pub added-means : (rows : List (List ℕ)) (words : List ℕ) (rows' : List (List ℕ)) (at : ℕ) → IsSome (thing_coded (slice_get (things_coded rows)) words) → RowAdded rows words rows' → slice_get rows' at ≡ Some words → slice_get (things_coded rows') at ≡ thing_coded (slice_get (things_coded rows)) words
added-means rows words rows' at some a there =
    let x = is_some-value (thing_coded (slice_get (things_coded rows)) words) some in
    let r = row_there rows' a.coded at words there in
    let later = thing_coded-kept (slice_get (things_coded rows)) (slice_get (things_coded rows')) a.kept words x.0 x.1 in
    r.is ∙ sym r.means ∙ later ∙ sym x.1

-- the first rows
pub things-cut : (rows : List (List ℕ)) (n : ℕ) → n ≤ length rows → things_coded (take n rows) ≡ take n (things_coded rows)
things-cut rows n within = built-take thing_of n rows within

pub coded-cut : (rows : List (List ℕ)) → AreCoded rows → (n : ℕ) → n ≤ length rows → AreCoded (take n rows)
coded-cut rows h n within = record { mean = mean; sized = sized }
  where
    cut : things_coded (take n rows) ≡ take n (things_coded rows)
    cut = things-cut rows n within

    mean : (k : ℕ) (words : List ℕ) → slice_get (take n rows) k ≡ Some words → IsSome (thing_coded (slice_get (take k (things_coded (take n rows)))) words)
    mean k words at =
        let t = slice_get-take n rows k words at in
        let e : take k (things_coded (take n rows)) ≡ take k (things_coded rows) = ap (take k) cut ∙ take-take k n (things_coded rows) (omega (arith, t.0)) in
        rw e (h.mean k words t.1)

    sized : (k : ℕ) (words : List ℕ) → slice_get (take n rows) k ≡ Some words → IsSized k (slice_get (things_coded (take n rows)) k) words
    sized k words at =
        let t = slice_get-take n rows k words at in
        let e : slice_get (things_coded (take n rows)) k ≡ slice_get (things_coded rows) k = ap (λ xs. slice_get xs k) cut ∙ slice_get-same n k (take n (things_coded rows)) (things_coded rows) t.0 (take-take n n (things_coded rows) (omega arith)) in
        subst (λ o. IsSized k o words) (sym e) (h.sized k words t.1)

-- rows that mean something in the first rows are among them
pub earlier-names : (k : ℕ) (xs : List Thing) (names : List ℕ) → All (Mean (slice_get (take k xs))) names → All (λ j. j < k) names
earlier-names k xs names all = All-weaker (Mean (slice_get (take k xs))) (λ j. j < k) (λ j y. (slice_get-take k xs j y.0 y.1).0) names all
