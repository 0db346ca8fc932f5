-- The marked rows of a file and its roots are a right file, and each row but the header serves a root.
use Rattle.std.proofs.Common.{◌≡◌, ℕ, zero, suc, ◌+◌, ◌^◌, ◌<◌, ◌≤◌, nat_lt, Bool, true, false, List, [], ◌∷◌, ◌++◌, length, map, refl, sym, ◌∙◌, ap, ap₂, subst, arith, Some, length-append, append_assoc}
use Rattle.std.specs.Prelude.{slice_get, slice_index_or, option_and_then}
use Rattle.std.specs.List.{All, Contains, flat_map}
use Rattle.std.proofs.lemmas.Option.{slice_get_within, slice_get-get_or}
use Rattle.std.proofs.lemmas.List.{length-map}
use Rattle.std.proofs.lemmas.List.Elements.{All-nil, All-cons, All-head, All-tail, All-weaker, All-contains}
use borrow.Author.Tests.{ltb-true, ltb-false}
use Rattle.trees.specs.Judgements.{Judgement}
use Rattle.trees.specs.Things.{meanings}
use Rattle.rows.proofs.TableLaws.{slice_get-prefix}
use Rattle.deriv_file.specs.declared.row.Row.{Row}
use Rattle.deriv_file.specs.declared.row.Row.TheVariants as row
use Rattle.deriv_file.specs.Spelling.{spelled}
use Rattle.derivation.specs.Meanings.{Meaning, conclusion_of, conclusion_at}
use Rattle.derivation.specs.Right.{RightRows}
use Rattle.derivation.proofs.PrefixLaws.{all_right-from_derives}
use Rattle.book_writer.specs.Chains.{IsPlain}
use Rattle.book_writer.specs.Means.{meanings_in, lines_conclude, IsFile}
use Rattle.book_writer.specs.Names.{names_in, renamed, marked, number, numbered, written, AreNumbers, Serves, is_root, is_named}
use Rattle.book_writer.specs.Served.{IsMarked, Reached, asked, named, AreServed}
use Rattle.book_writer.specs.Written.{IsWritten, Appends}
use Rattle.book_writer.proofs.BookLaws.{root_rows, rooted, rooted-derives, rooted-spelt}
use Rattle.book_writer.proofs.MeansLaws.{count-in}
use Rattle.book_writer.proofs.SubLaws.{there-at}
use Rattle.book_writer.proofs.LineLaws.{get-map}
use Rattle.book_writer.proofs.MarkLaws.{marked-at, AreClosed, nodes-same, numbered-right}
use Rattle.book_writer.proofs.NumberLaws.{number-first, length-marked, roots-held}
use Rattle.book_writer.proofs.RowsLaws.{flat_map-append}

-- lists

get-after : {X : Type 0} (xs ys : List X) (i : ℕ) → slice_get (xs ++ ys) (length xs + i) ≡ slice_get ys i
get-after [] ys i = let none : 0 + i ≡ i = omega arith in ap (slice_get ys) none
get-after (x ∷ xs) ys i =
    let more : suc (length xs) + i ≡ suc (length xs + i) = omega arith in
    ap (slice_get (x ∷ (xs ++ ys))) more ∙ get-after xs ys i

contains-at : {X : Type 0} (xs : List X) (x : X) → Contains xs x → (i : ℕ) × (slice_get xs i ≡ Some x)
contains-at xs x c = (c.0, slice_get-get_or xs c.0 x c.1 ∙ ap Some c.2)

at-contains : {X : Type 0} (xs : List X) (i : ℕ) (x : X) → slice_get xs i ≡ Some x → Contains xs x
at-contains [] i x e = cc
at-contains (y ∷ xs) zero x e = (zero, omega arith, cc)
at-contains (y ∷ xs) (suc i) x e = let c = at-contains xs i x e in (suc c.0, omega (arith, c.1), c.2)

map-contains : {X Y : Type 0} (f : X → Y) (xs : List X) (x : X) → Contains xs x → Contains (map f xs) (f x)
map-contains f xs x c = let i = contains-at xs x c in at-contains (map f xs) i.0 (f x) (get-map f xs i.0 x i.1)

difference : (a b : ℕ) → a ≤ b → (i : ℕ) × (a + i ≡ b)
difference zero b le = (b, omega arith)
difference (suc a) zero le = absurd (omega arith)
difference (suc a) (suc b) le = let i = difference a b (omega arith) in (i.0, omega (arith, i.1))

positive : (n : ℕ) → (n ≡ 0 → ⊥) → 0 < n
positive zero some = absurd (some refl)
positive (suc n) some = omega arith

-- what a row names, with other numbers

map-append : {X Y : Type 0} (f : X → Y) (xs ys : List X) → map f (xs ++ ys) ≡ map f xs ++ map f ys
map-append f [] ys = refl
map-append f (x ∷ xs) ys = ap (λ zs. f x ∷ zs) (map-append f xs ys)

names-renamed : (at : ℕ → ℕ) (r : Row) → map at (names_in r) ≡ names_in (renamed at r)
names-renamed at (row.Header v) = refl
names-renamed at (row.Var k) = refl
names-renamed at (row.Make op kids) = refl
names-renamed at (row.Instance t d) = refl
names-renamed at (row.Shift n) = refl
names-renamed at (row.Push d t) = refl
names-renamed at row.CtxNil = refl
names-renamed at (row.CtxVar G A) = refl
names-renamed at (row.CtxName G) = refl
names-renamed at (row.CtxFace G p) = refl
names-renamed at (row.Node rule parts premises) = map-append at parts premises
names-renamed at (row.Root k) = refl

plain-renamed : (at : ℕ → ℕ) (r : Row) → IsPlain r → IsPlain (renamed at r)
plain-renamed at (row.Header v) plain = plain
plain-renamed at (row.Var k) plain = plain
plain-renamed at (row.Make op kids) plain = tt
plain-renamed at (row.Instance t d) plain = tt
plain-renamed at (row.Shift n) plain = plain
plain-renamed at (row.Push d t) plain = tt
plain-renamed at row.CtxNil plain = tt
plain-renamed at (row.CtxVar G A) plain = tt
plain-renamed at (row.CtxName G) plain = tt
plain-renamed at (row.CtxFace G p) plain = tt
plain-renamed at (row.Node rule parts premises) plain = tt
plain-renamed at (row.Root k) plain = absurd plain

plain-marked : (at : ℕ → ℕ) (marks : List Bool) (rows : List Row) → All IsPlain rows → All IsPlain (map (renamed at) (marked marks rows))
plain-marked at [] rows plain = All-nil IsPlain
plain-marked at (m ∷ marks) [] plain = All-nil IsPlain
plain-marked at (true ∷ marks) (r ∷ rows) plain = All-cons IsPlain (renamed at r) (map (renamed at) (marked marks rows)) (plain-renamed at r (All-head IsPlain r rows plain)) (plain-marked at marks rows (All-tail IsPlain r rows plain))
plain-marked at (false ∷ marks) (r ∷ rows) plain = plain-marked at marks rows (All-tail IsPlain r rows plain)

some-numbered : (at : ℕ → ℕ) (marks : List Bool) (rows : List Row) → IsMarked marks 0 → 0 < length rows → 0 < length (map (renamed at) (marked marks rows))
some-numbered at [] rows is some = cc
some-numbered at (m ∷ marks) [] is some = absurd (omega arith)
some-numbered at (true ∷ marks) (r ∷ rows) is some = omega arith
some-numbered at (false ∷ marks) (r ∷ rows) is some = cc

-- the number of a marked row
pub record NumberOf (marks : List Bool) (n : ℕ) : Type 0 where
  pub row : ℕ
  pub is_marked : IsMarked marks row
  pub number_is : number marks row ≡ n

numbered-from : {X : Type 0} (marks : List Bool) (xs : List X) (n : ℕ) → n < length (marked marks xs) → NumberOf marks n
numbered-from [] xs n lt = absurd (omega arith)
numbered-from (m ∷ marks) [] n lt = absurd (omega arith)
numbered-from (true ∷ marks) (x ∷ xs) zero lt = record { row = 0; is_marked = refl; number_is = refl }
numbered-from (true ∷ marks) (x ∷ xs) (suc n) lt =
    let k = numbered-from marks xs n (omega arith) in
    record { row = suc k.row; is_marked = k.is_marked; number_is = ap suc k.number_is }
numbered-from (false ∷ marks) (x ∷ xs) n lt =
    let k = numbered-from marks xs n lt in
    record { row = suc k.row; is_marked = k.is_marked; number_is = k.number_is }

-- a file, and which of its rows are marked
module _ (rows : List Row) (h : IsFile rows) (roots : List ℕ) (marks : List Bool) (s : AreServed rows roots marks) where
  abbrev at : ℕ → ℕ
  at = number marks

  abbrev kept : List Row
  kept = numbered marks rows

  abbrev all : List Row
  all = written marks rows roots

  reached-marked : (k : ℕ) → Reached rows roots k → IsMarked marks k
  reached-marked k (asked c) = All-contains (IsMarked marks) roots k s.roots_marked c
  reached-marked k (named j r reach e c) = All-contains (IsMarked marks) (names_in r) k (s.closed j r e (reached-marked j reach)) c

  marked-there : (k : ℕ) (r : Row) → IsMarked marks k → slice_get rows k ≡ Some r → slice_get all (at k) ≡ Some (renamed at r)
  marked-there k r is e =
      slice_get-prefix kept (root_rows (map at roots)) (at k) (renamed at r)
      (get-map (renamed at) (marked marks rows) (at k) r (marked-at marks rows k s.count is ∙ e))

  root-there : (i k : ℕ) → slice_get roots i ≡ Some k → slice_get all (length kept + i) ≡ Some (row.Root (at k))
  root-there i k e =
      get-after kept (root_rows (map at roots)) i ∙ get-map (λ n. row.Root n) (map at roots) i (at k) (get-map at roots i k e)

  reached-serves : (k : ℕ) → Reached rows roots k → Serves all (at k)
  reached-serves k (asked c) =
      let i = contains-at roots k c in
      let e = root-there i.0 k i.1 in
      is_named (length kept + i.0) (row.Root (at k)) (is_root (at k) e) e (at-contains (at k ∷ []) 0 (at k) refl)
  reached-serves k (named j r reach e c) =
      is_named (at j) (renamed at r) (reached-serves j reach) (marked-there j r (reached-marked j reach) e) (subst (λ ns. Contains ns (at k)) (names-renamed at r) (map-contains at (names_in r) k c))

  marked-serve : (n : ℕ) → 0 < n → n < length kept → Serves all n
  marked-serve n some lt =
      let k = numbered-from marks rows n (omega (arith, length-map (marked marks rows) (renamed at))) in
      let first : k.row ≡ 0 → ⊥ = λ none. let zero' : number marks k.row ≡ 0 = ap at none ∙ number-first marks in omega (arith, k.number_is) in
      subst (Serves all) k.number_is (reached-serves k.row (s.reached k.row (positive k.row first) k.is_marked))

  root-serve : (n : ℕ) → length kept ≤ n → n < length all → Serves all n
  root-serve n le lt =
      let i = difference (length kept) n le in
      let index : ℕ = i.0 in
      let place : length kept + index ≡ n = i.1 in
      let root = there-at roots index (omega (arith, length-append kept (root_rows (map at roots)), length-map (map at roots) (λ m. row.Root m), length-map roots at)) in
      subst (Serves all) place (is_root (at root.0) (root-there index root.0 root.1))

  serve : (n : ℕ) → 0 < n → n < length all → Serves all n
  serve n some lt = from (nat_lt n (length kept)) refl
    where
      from : (b : Bool) → nat_lt n (length kept) ≡ b → Serves all n
      from true is = marked-serve n some (ltb-true n (length kept) is)
      from false is = root-serve n (ltb-false n (length kept) is) lt

  abbrev meant : List Meaning
  meant = meanings_in rows

  conclusions : (Js : List Judgement) → meanings (lines_conclude rows) roots ≡ Some Js → meanings (conclusion_at (marked marks meant)) (map at roots) ≡ Some Js
  conclusions Js e =
      let same : (k : ℕ) → IsMarked marks k → conclusion_at (marked marks meant) (at k) ≡ conclusion_at meant k =
      λ k is. ap (option_and_then conclusion_of) (marked-at marks meant k (s.count ∙ sym (count-in rows)) is) in
      nodes-same (conclusion_at meant) (conclusion_at (marked marks meant)) at roots (All-weaker (IsMarked marks) (λ k. conclusion_at (marked marks meant) (at k) ≡ conclusion_at meant k) same roots s.roots_marked)
      ∙ e

  pub written-right : (Js : List Judgement) → meanings (lines_conclude rows) roots ≡ Some Js → length all ≤ 2 ^ 64 → IsWritten (flat_map spelled all) (length all) Js
  written-right Js e few =
      let closed : AreClosed marks rows = record { count = s.count; header = λ some. s.header; closed = s.closed } in
      let right : RightRows [] kept (marked marks meant) = numbered-right marks rows meant s.header closed h.right in
      let some : 0 < length kept = some-numbered at marks rows s.header h.some in
      let r = rooted kept (marked marks meant) right (plain-marked at marks rows h.plain) some (map at roots) Js (conclusions Js e) in
      let derives = rooted-derives kept (map at roots) Js r few in
      record {
        right = all_right-from_derives (flat_map spelled all) (length all) Js derives (omega (arith, length-append kept (root_rows (map at roots))));
        derives = derives;
        rows = all;
        spelt = rooted-spelt kept (map at roots) Js r few;
        serve = serve;
      }

  -- what is appended
  pub appended : (numbers : List ℕ) → AreNumbers marks numbers → (old mid new : List ℕ) → mid ≡ old ++ flat_map spelled kept → new ≡ mid ++ flat_map spelled (map (λ k. row.Root (slice_index_or numbers k 0)) roots) → (counted count : ℕ) → counted ≡ number marks (length marks) → count ≡ counted + length roots → count ≤ 2 ^ 64 → (Js : List Judgement) → meanings (lines_conclude rows) roots ≡ Some Js → Appends old new count Js
  appended numbers are old mid new first last counted count counted_is sum few Js e =
      let within : All (λ k. k < length marks) roots = All-weaker (IsMarked marks) (λ k. k < length marks) (λ k is. slice_get_within marks k true is) roots s.roots_marked in
      let held = roots-held marks numbers roots are within in
      let whole : flat_map spelled all ≡ flat_map spelled kept ++ flat_map spelled (root_rows (map at roots)) = flat_map-append spelled kept (root_rows (map at roots)) in
      let kept_count : length kept ≡ counted = length-map (marked marks rows) (renamed at) ∙ length-marked marks rows s.count ∙ sym counted_is in
      let all_count : length all ≡ count = omega (arith, kept_count, sum, length-append kept (root_rows (map at roots)), length-map (map at roots) (λ n. row.Root n), length-map roots at) in
      record {
        file = flat_map spelled all;
        is = last ∙ ap₂ (λ bs rs. bs ++ flat_map spelled rs) first held ∙ append_assoc old (flat_map spelled kept) (flat_map spelled (root_rows (map at roots))) ∙ ap (λ bs. old ++ bs) (sym whole);
        written = subst (λ n. IsWritten (flat_map spelled all) n Js) all_count (written-right Js e (omega (arith, all_count)));
      }
