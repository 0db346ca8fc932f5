-- Marked rows that name marked rows alone are right, with numbers of their own.
use Rattle.std.proofs.Common.{◌≡◌, ℕ, zero, suc, ◌+◌, ◌<◌, Bool, true, false, List, [], ◌∷◌, ◌++◌, length, map, refl, sym, ◌∙◌, ap, ap₂, subst, arith, Option, Some, length-append, append_assoc}
use Rattle.std.specs.Prelude.{slice_get, option_and_then}
use Rattle.std.specs.List.{All}
use Rattle.std.proofs.lemmas.Option.{slice_get_within}
use Rattle.std.proofs.lemmas.List.{append-nil}
use Rattle.std.proofs.lemmas.List.Elements.{All-nil, All-cons, All-head, All-tail, All-append, All-weaker}
use Rattle.trees.specs.Judgements.{Judgement}
use Rattle.trees.specs.Things.{Thing, Meanings, both, consed, made, meanings, instance_of, pushed_on, with_variable, with_a_name, with_a_face}
use Rattle.trees.proofs.Meanings.{meanings-cons}
use Rattle.rows.proofs.OptionLaws.{one-some}
use Rattle.rows.proofs.MeaningLaws.{Mean, meanings-mean, both-mean}
use Rattle.rows.proofs.TableLaws.{slice_get-next}
use Rattle.deriv_file.specs.declared.row.Row.{Row}
use Rattle.deriv_file.specs.declared.row.Row.TheVariants as row
use Rattle.derivation.specs.Meanings.{Meaning, thing_of, thing_at, conclusion_of, conclusion_at}
use Rattle.derivation.specs.Right.{RightRow, RightRows}
use Rattle.book_writer.specs.Names.{names_in, renamed, marked, number, numbered}

-- marked items

pub marked-push : {X : Type 0} (marks : List Bool) (xs : List X) (x : X) → length marks ≡ length xs → marked (marks ++ true ∷ []) (xs ++ x ∷ []) ≡ marked marks xs ++ x ∷ []
marked-push [] [] x e = refl
marked-push [] (y ∷ xs) x e = absurd (omega arith)
marked-push (m ∷ marks) [] x e = absurd (omega arith)
marked-push (true ∷ marks) (y ∷ xs) x e = ap (λ zs. y ∷ zs) (marked-push marks xs x (omega arith))
marked-push (false ∷ marks) (y ∷ xs) x e = marked-push marks xs x (omega arith)

pub marked-skip : {X : Type 0} (marks : List Bool) (xs : List X) (x : X) → length marks ≡ length xs → marked (marks ++ false ∷ []) (xs ++ x ∷ []) ≡ marked marks xs
marked-skip [] [] x e = refl
marked-skip [] (y ∷ xs) x e = absurd (omega arith)
marked-skip (m ∷ marks) [] x e = absurd (omega arith)
marked-skip (true ∷ marks) (y ∷ xs) x e = ap (λ zs. y ∷ zs) (marked-skip marks xs x (omega arith))
marked-skip (false ∷ marks) (y ∷ xs) x e = marked-skip marks xs x (omega arith)

-- a marked item stands at its number
pub marked-at : {X : Type 0} (marks : List Bool) (xs : List X) (k : ℕ) → length marks ≡ length xs → slice_get marks k ≡ Some true → slice_get (marked marks xs) (number marks k) ≡ slice_get xs k
marked-at [] xs k e is = cc
marked-at (m ∷ marks) [] k e is = absurd (omega arith)
marked-at (true ∷ marks) (x ∷ xs) zero e is = refl
marked-at (true ∷ marks) (x ∷ xs) (suc k) e is = marked-at marks xs k (omega arith) is
marked-at (false ∷ marks) (x ∷ xs) zero e is = cc
marked-at (false ∷ marks) (x ∷ xs) (suc k) e is = marked-at marks xs k (omega arith) is

pub number-before : (marks more : List Bool) (k : ℕ) → k < length marks → number (marks ++ more) k ≡ number marks k
number-before [] more k lt = absurd (omega arith)
number-before (m ∷ marks) more zero lt = refl
number-before (true ∷ marks) more (suc k) lt = ap suc (number-before marks more k (omega arith))
number-before (false ∷ marks) more (suc k) lt = number-before marks more k (omega arith)

mark-before : (marks more : List Bool) (k : ℕ) → k < length marks → slice_get (marks ++ more) k ≡ Some true → slice_get marks k ≡ Some true
mark-before [] more k lt e = absurd (omega arith)
mark-before (m ∷ marks) more zero lt e = e
mark-before (m ∷ marks) more (suc k) lt e = mark-before marks more k (omega arith) e

-- the meanings of rows that keep their names

module _ (f g : Meanings) (at : ℕ → ℕ) where
  abbrev pub Same : ℕ → Type 0
  Same k = g (at k) ≡ f k

  all-same : (ks : List ℕ) → All Same ks → meanings g (map at ks) ≡ meanings f ks
  all-same [] same = refl
  all-same (k ∷ ks) same = ap₂ (both consed) (All-head Same k ks same) (all-same ks (All-tail Same k ks same))

  two-same : (h : Thing → Thing → Option Thing) (j k : ℕ) → All Same (j ∷ k ∷ []) → both h (g (at j)) (g (at k)) ≡ both h (f j) (f k)
  two-same h j k same = ap₂ (both h) (All-head Same j (k ∷ []) same) (All-head Same k [] (All-tail Same j (k ∷ []) same))

pub nodes-same : (f g : ℕ → Option Judgement) (at : ℕ → ℕ) (ks : List ℕ) → All (λ k. g (at k) ≡ f k) ks → meanings g (map at ks) ≡ meanings f ks
nodes-same f g at [] same = refl
nodes-same f g at (k ∷ ks) same = ap₂ (both consed) (All-head (λ k. g (at k) ≡ f k) k ks same) (nodes-same f g at ks (All-tail (λ k. g (at k) ≡ f k) k ks same))

pub all-first : (P : ℕ → Type 0) (xs ys : List ℕ) → All P (xs ++ ys) → All P xs
all-first P [] ys all = All-nil P
all-first P (x ∷ xs) ys all = All-cons P x xs (All-head P x (xs ++ ys) all) (all-first P xs ys (All-tail P x (xs ++ ys) all))

pub all-last : (P : ℕ → Type 0) (xs ys : List ℕ) → All P (xs ++ ys) → All P ys
all-last P [] ys all = all
all-last P (x ∷ xs) ys all = all-last P xs ys (All-tail P x (xs ++ ys) all)

-- rows before are some and so are those among them, where a row's names mean what they did
row-kept : (before after : List Meaning) (at : ℕ → ℕ) → 0 < length before → 0 < length after → (r : Row) (m : Meaning) → All (λ k. slice_get after (at k) ≡ slice_get before k) (names_in r) → RightRow before r m → RightRow after (renamed at r) m
row-kept [] after at some some' r m same right = absurd (omega arith)
row-kept (b ∷ before) [] at some some' r m same right = absurd (omega arith)
row-kept (b ∷ before) (a ∷ after) at some some' r m same right = from r same right
  where
    f : Meanings
    f = thing_at (b ∷ before)

    g : Meanings
    g = thing_at (a ∷ after)

    things : (ks : List ℕ) → All (λ k. slice_get (a ∷ after) (at k) ≡ slice_get (b ∷ before) k) ks → All (λ k. g (at k) ≡ f k) ks
    things ks all = All-weaker (λ k. slice_get (a ∷ after) (at k) ≡ slice_get (b ∷ before) k) (λ k. g (at k) ≡ f k) (λ k e. ap (option_and_then thing_of) e) ks all

    nodes : (ks : List ℕ) → All (λ k. slice_get (a ∷ after) (at k) ≡ slice_get (b ∷ before) k) ks → All (λ k. conclusion_at (a ∷ after) (at k) ≡ conclusion_at (b ∷ before) k) ks
    nodes ks all = All-weaker (λ k. slice_get (a ∷ after) (at k) ≡ slice_get (b ∷ before) k) (λ k. conclusion_at (a ∷ after) (at k) ≡ conclusion_at (b ∷ before) k) (λ k e. ap (option_and_then conclusion_of) e) ks all

    from : (r : Row) → All (λ k. slice_get (a ∷ after) (at k) ≡ slice_get (b ∷ before) k) (names_in r) → RightRow (b ∷ before) r m → RightRow (a ∷ after) (renamed at r) m
    from (row.Header v) same right = absurd right
    from (row.Var k) same right = right
    from (row.Make op kids) same right = (right.0, ap (option_and_then (made op)) (all-same f g at kids (things kids same)) ∙ right.1, right.2)
    from (row.Instance t d) same right = (right.0, two-same f g at instance_of t d (things (t ∷ d ∷ []) same) ∙ right.1, right.2)
    from (row.Shift n) same right = right
    from (row.Push d t) same right = (right.0, two-same f g at pushed_on d t (things (d ∷ t ∷ []) same) ∙ right.1, right.2)
    from row.CtxNil same right = right
    from (row.CtxVar G A) same right = (right.0, two-same f g at with_variable G A (things (G ∷ A ∷ []) same) ∙ right.1, right.2)
    from (row.CtxName G) same right = (right.0, ap (option_and_then with_a_name) (All-head (λ k. g (at k) ≡ f k) G [] (things (G ∷ []) same)) ∙ right.1, right.2)
    from (row.CtxFace G p) same right = (right.0, two-same f g at with_a_face G p (things (G ∷ p ∷ []) same) ∙ right.1, right.2)
    from (row.Node rule parts premises) same right =
        let n = right.1 in (
          right.0,
          record {
            xs = n.xs;
            Js = n.Js;
            parts_are = all-same f g at parts (things parts (all-first (λ k. slice_get (a ∷ after) (at k) ≡ slice_get (b ∷ before) k) parts premises same)) ∙ n.parts_are;
            premises_are = nodes-same (conclusion_at (b ∷ before)) (conclusion_at (a ∷ after)) at premises (nodes premises (all-last (λ k. slice_get (a ∷ after) (at k) ≡ slice_get (b ∷ before) k) parts premises same)) ∙ n.premises_are;
            instance = n.instance;
          },
          right.2,
        )
    from (row.Root k) same right = (right.0, All-head (λ k. conclusion_at (a ∷ after) (at k) ≡ conclusion_at (b ∷ before) k) k [] (nodes (k ∷ []) same) ∙ right.1, right.2)

-- what a right row names stands before it

within : (before : List Meaning) (k : ℕ) → Mean (thing_at before) k → k < length before
within before k x = let o = one-some thing_of (slice_get before k) x.0 x.1 in slice_get_within before k o.first o.first_is

node-within : (before : List Meaning) (k : ℕ) (J : Judgement) → conclusion_at before k ≡ Some J → k < length before
node-within before k J e = let o = one-some conclusion_of (slice_get before k) J e in slice_get_within before k o.first o.first_is

all-within : (before : List Meaning) (ks : List ℕ) → All (Mean (thing_at before)) ks → All (λ k. k < length before) ks
all-within before = All-weaker (Mean (thing_at before)) (λ k. k < length before) (within before)

nodes-within : (before : List Meaning) (ks : List ℕ) (Js : List Judgement) → meanings (conclusion_at before) ks ≡ Some Js → All (λ k. k < length before) ks
nodes-within before [] Js e = All-nil (λ k. k < length before)
nodes-within before (k ∷ ks) Js e =
    let m = meanings-cons (conclusion_at before) k ks Js e in
    All-cons (λ k. k < length before) k ks (node-within before k m.first m.first_is) (nodes-within before ks m.rest m.rest_is)

pub right-names : (before : List Meaning) (r : Row) (m : Meaning) → RightRow before r m → All (λ k. k < length before) (names_in r)
right-names [] (row.Header v) m right = All-nil (λ k. k < 0)
right-names [] r m right = absurd right
right-names (b ∷ before) (row.Header v) m right = absurd right
right-names (b ∷ before) (row.Var k) m right = All-nil (λ k. k < length (b ∷ before))
right-names (b ∷ before) (row.Make op kids) m right =
    let o = one-some (made op) (meanings (thing_at (b ∷ before)) kids) right.0 right.1 in
    all-within (b ∷ before) kids (meanings-mean (thing_at (b ∷ before)) kids o.first o.first_is)
right-names (b ∷ before) (row.Instance t d) m right = all-within (b ∷ before) (t ∷ d ∷ []) (both-mean (thing_at (b ∷ before)) instance_of t d right.0 right.1)
right-names (b ∷ before) (row.Shift n) m right = All-nil (λ k. k < length (b ∷ before))
right-names (b ∷ before) (row.Push d t) m right = all-within (b ∷ before) (d ∷ t ∷ []) (both-mean (thing_at (b ∷ before)) pushed_on d t right.0 right.1)
right-names (b ∷ before) row.CtxNil m right = All-nil (λ k. k < length (b ∷ before))
right-names (b ∷ before) (row.CtxVar G A) m right = all-within (b ∷ before) (G ∷ A ∷ []) (both-mean (thing_at (b ∷ before)) with_variable G A right.0 right.1)
right-names (b ∷ before) (row.CtxName G) m right =
    let o = one-some with_a_name (thing_at (b ∷ before) G) right.0 right.1 in
    all-within (b ∷ before) (G ∷ []) (All-cons (Mean (thing_at (b ∷ before))) G [] (o.first, o.first_is) (All-nil (Mean (thing_at (b ∷ before)))))
right-names (b ∷ before) (row.CtxFace G p) m right = all-within (b ∷ before) (G ∷ p ∷ []) (both-mean (thing_at (b ∷ before)) with_a_face G p right.0 right.1)
right-names (b ∷ before) (row.Node rule parts premises) m right =
    let n = right.1 in
    All-append (λ k. k < length (b ∷ before)) parts premises (all-within (b ∷ before) parts (meanings-mean (thing_at (b ∷ before)) parts n.xs n.parts_are)) (nodes-within (b ∷ before) premises n.Js n.premises_are)
right-names (b ∷ before) (row.Root k) m right = All-cons (λ k. k < length (b ∷ before)) k [] (node-within (b ∷ before) k right.0 right.1) (All-nil (λ k. k < length (b ∷ before)))

-- marked rows name marked rows alone, and the first row is marked
pub record AreClosed (marks : List Bool) (rows : List Row) : Type 0 where
  pub count : length marks ≡ length rows
  pub header : 0 < length rows → slice_get marks 0 ≡ Some true
  pub closed : (k : ℕ) (r : Row) → slice_get rows k ≡ Some r → slice_get marks k ≡ Some true → All (λ j. slice_get marks j ≡ Some true) (names_in r)

module _ (marks : List Bool) (header : slice_get marks 0 ≡ Some true) where
  abbrev pub at : ℕ → ℕ
  at = number marks

  name-same : (done more : List Bool) → marks ≡ done ++ more → (before : List Meaning) → length done ≡ length before → (k : ℕ) → k < length before → slice_get marks k ≡ Some true → slice_get (marked done before) (at k) ≡ slice_get before k
  name-same done more split before count k lt is =
      let early : k < length done = omega arith in
      let here : slice_get done k ≡ Some true = mark-before done more k early (ap (λ ms. slice_get ms k) (sym split) ∙ is) in
      let place : at k ≡ number done k = ap (λ ms. number ms k) split ∙ number-before done more k early in
      ap (slice_get (marked done before)) place ∙ marked-at done before k count here

  names-same : (done more : List Bool) → marks ≡ done ++ more → (before : List Meaning) → length done ≡ length before → (ks : List ℕ) → All (λ k. k < length before) ks → All (λ k. slice_get marks k ≡ Some true) ks → All (λ k. slice_get (marked done before) (at k) ≡ slice_get before k) ks
  names-same done more split before count [] low are = All-nil (λ k. slice_get (marked done before) (at k) ≡ slice_get before k)
  names-same done more split before count (k ∷ ks) low are =
      All-cons (λ k. slice_get (marked done before) (at k) ≡ slice_get before k) k ks (name-same done more split before count k (All-head (λ k. k < length before) k ks low) (All-head (λ k. slice_get marks k ≡ Some true) k ks are))
      (names-same done more split before count ks (All-tail (λ k. k < length before) k ks low) (All-tail (λ k. slice_get marks k ≡ Some true) k ks are))

  some-marked : (done more : List Bool) → marks ≡ done ++ more → (before : List Meaning) → length done ≡ length before → 0 < length before → 0 < length (marked done before)
  some-marked [] more split before count some = absurd (omega arith)
  some-marked (m ∷ done) more split [] count some = absurd (omega arith)
  some-marked (true ∷ done) more split (b ∷ before) count some = omega arith
  some-marked (false ∷ done) more split (b ∷ before) count some = let first : slice_get marks 0 ≡ Some false = ap (λ ms. slice_get ms 0) split in cc

  row-marked : (done more : List Bool) → marks ≡ done ++ more → (before : List Meaning) → length done ≡ length before → (r : Row) (m : Meaning) → RightRow before r m → All (λ k. slice_get marks k ≡ Some true) (names_in r) → RightRow (marked done before) (renamed at r) m
  row-marked [] more split [] count (row.Header v) m right are = right
  row-marked (x ∷ done) more split [] count r m right are = absurd (omega arith)
  row-marked done more split [] count r m right are = absurd right
  row-marked done more split (b ∷ before) count r m right are =
      row-kept (b ∷ before) (marked done (b ∷ before)) at (omega arith) (some-marked done more split (b ∷ before) count (omega arith)) r m
      (names-same done more split (b ∷ before) count (names_in r) (right-names (b ∷ before) r m right) are) right

  rows-marked : (done more : List Bool) → marks ≡ done ++ more → (before : List Meaning) (rest : List Row) (all : List Meaning) → length done ≡ length before → length more ≡ length rest → RightRows before rest all → ((k : ℕ) (r : Row) → slice_get rest k ≡ Some r → slice_get marks (length done + k) ≡ Some true → All (λ j. slice_get marks j ≡ Some true) (names_in r)) → RightRows (marked done before) (map (renamed at) (marked more rest)) (marked marks all)
  rows-marked done [] split before [] all count counts right closed = ap₂ marked (split ∙ append-nil done) right
  rows-marked done [] split before (r ∷ rest) all count counts right closed = absurd (omega arith)
  rows-marked done (b ∷ more) split before [] all count counts right closed = absurd (omega arith)
  rows-marked done (true ∷ more) split before (r ∷ rest) all count counts right closed =
      let m : Meaning = right.0 in
      let here : slice_get marks (length done + 0) ≡ Some true = ap (λ ms. slice_get ms (length done + 0)) split ∙ ap (slice_get (done ++ true ∷ more)) (omega arith) ∙ slice_get-next done more true in
      let next = rows-marked (done ++ true ∷ []) more (split ∙ sym (append_assoc done (true ∷ []) more)) (before ++ m ∷ []) rest all (omega (arith, length-append done (true ∷ []), length-append before (m ∷ []))) (omega arith) right.2
      (λ k s e is. closed (suc k) s e (subst (λ n. slice_get marks n ≡ Some true) (omega (arith, length-append done (true ∷ []))) is)) in (
        m,
        row-marked done (true ∷ more) split before count r m right.1 (closed 0 r refl here),
        subst (λ (ms : List Meaning). RightRows ms (map (renamed at) (marked more rest)) (marked marks all)) (marked-push done before m count) next,
      )
  rows-marked done (false ∷ more) split before (r ∷ rest) all count counts right closed =
      let m : Meaning = right.0 in
      let next = rows-marked (done ++ false ∷ []) more (split ∙ sym (append_assoc done (false ∷ []) more)) (before ++ m ∷ []) rest all (omega (arith, length-append done (false ∷ []), length-append before (m ∷ []))) (omega arith) right.2
      (λ k s e is. closed (suc k) s e (subst (λ n. slice_get marks n ≡ Some true) (omega (arith, length-append done (false ∷ []))) is)) in
      subst (λ (ms : List Meaning). RightRows ms (map (renamed at) (marked more rest)) (marked marks all)) (marked-skip done before m count) next

pub numbered-right : (marks : List Bool) (rows : List Row) (all : List Meaning) → slice_get marks 0 ≡ Some true → AreClosed marks rows → RightRows [] rows all → RightRows [] (numbered marks rows) (marked marks all)
numbered-right marks rows all header h right = rows-marked marks header [] marks refl [] rows all refl h.count right (λ k r e is. h.closed k r e (subst (λ n. slice_get marks n ≡ Some true) (omega arith) is))
