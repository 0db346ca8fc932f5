-- What rows of a file mean as rows are added, and what substitutions they spell.
use Rattle.std.proofs.Common.{◌≡◌, ℕ, zero, suc, ◌+◌, List, [], ◌∷◌, ◌++◌, length, refl, sym, ◌∙◌, ap, ap₂, subst, arith, Some, length-append, append_assoc}
use Rattle.std.specs.Prelude.{slice_get, option_and_then}
use Rattle.std.proofs.lemmas.List.{append-nil}
use Rattle.std.proofs.lemmas.List.Elements.{All-nil, All-cons, All-append}
use Rattle.trees.specs.Judgements.{Judgement}
use Rattle.trees.specs.Things.{Thing, Kept}
use Rattle.rows.proofs.TableLaws.{length-built, built-push, slice_get-next}
use Rattle.deriv_file.specs.declared.row.Row.{Row}
use Rattle.deriv_file.specs.declared.row.Row.TheVariants as row
use Rattle.derivation.specs.Meanings.{Meaning, Means, Concludes, thing_of, thing_at, conclusion_of, conclusion_at}
use Rattle.derivation.specs.Right.{thing_made, RightRow, RightRows}
use Rattle.derivation.proofs.PrefixLaws.{rows_whole}
use Rattle.book_writer.specs.Chains.{IsPlain}
use Rattle.book_writer.specs.Means.{means_some, meaning_after, meanings_in, lines_mean, lines_conclude, IsFile}
use Rattle.book_writer.proofs.ChainLaws.{thing-kept, thing-right}
use Rattle.book_writer.proofs.NodesLaws.{conclusion-kept}

-- a right row means what it does by definition
pub means-is : (all : List Meaning) (r : Row) (m : Meaning) → RightRow all r m → m ≡ meaning_after all r
means-is [] (row.Header v) m right = right
means-is [] r m right = absurd right
means-is (b ∷ all) (row.Header v) m right = absurd right
means-is (b ∷ all) (row.Node rule parts premises) m right =
    let n = right.1 in
    let parts_are = n.parts_are in
    let is = n.instance.is in
    right.2 ∙ ap Concludes n.instance.gives ∙ rw (parts_are, is) refl
means-is (b ∷ all) (row.Root k) m right = right.2
means-is (b ∷ all) (row.Var k) m right = right.2 ∙ ap means_some (sym right.1)
means-is (b ∷ all) (row.Make op kids) m right = right.2 ∙ ap means_some (sym right.1)
means-is (b ∷ all) (row.Instance t d) m right = right.2 ∙ ap means_some (sym right.1)
means-is (b ∷ all) (row.Shift n) m right = right.2 ∙ ap means_some (sym right.1)
means-is (b ∷ all) (row.Push d t) m right = right.2 ∙ ap means_some (sym right.1)
means-is (b ∷ all) row.CtxNil m right = right.2 ∙ ap means_some (sym right.1)
means-is (b ∷ all) (row.CtxVar G A) m right = right.2 ∙ ap means_some (sym right.1)
means-is (b ∷ all) (row.CtxName G) m right = right.2 ∙ ap means_some (sym right.1)
means-is (b ∷ all) (row.CtxFace G p) m right = right.2 ∙ ap means_some (sym right.1)

pub count-in : (rows : List Row) → length (meanings_in rows) ≡ length rows
count-in rows = length-built meaning_after rows

pub push-in : (rows : List Row) (r : Row) → meanings_in (rows ++ r ∷ []) ≡ meanings_in rows ++ meaning_after (meanings_in rows) r ∷ []
push-in rows r = built-push meaning_after rows r

-- a right row more
pub file-pushed : (rows : List Row) → IsFile rows → (r : Row) → IsPlain r → RightRow (meanings_in rows) r (meaning_after (meanings_in rows) r) → IsFile (rows ++ r ∷ [])
file-pushed rows h r plain right =
    let all : List Meaning = meanings_in rows in
    let m : Meaning = meaning_after all r in
    record {
      right = subst (RightRows [] (rows ++ r ∷ [])) (sym (push-in rows r)) (rows_whole [] rows (r ∷ []) all (all ++ m ∷ []) h.right (m, right, refl));
      plain = All-append IsPlain rows (r ∷ []) h.plain (All-cons IsPlain r [] plain (All-nil IsPlain));
      some = omega (arith, h.some, length-append rows (r ∷ []));
    }

pub lines-kept : (rows : List Row) (r : Row) → Kept (lines_mean rows) (lines_mean (rows ++ r ∷ []))
lines-kept rows r = record {
  keeps = λ k x e. ap (λ all. thing_at all k) (push-in rows r) ∙ thing-kept (meanings_in rows) (meaning_after (meanings_in rows) r ∷ []) k x e;
}

pub conclusions-kept : (rows : List Row) (r : Row) (k : ℕ) (J : Judgement) → lines_conclude rows k ≡ Some J → lines_conclude (rows ++ r ∷ []) k ≡ Some J
conclusions-kept rows r k J e = ap (λ all. conclusion_at all k) (push-in rows r) ∙ conclusion-kept (meanings_in rows) (meaning_after (meanings_in rows) r ∷ []) k J e

-- the new row
next-is : (rows : List Row) (r : Row) → slice_get (meanings_in (rows ++ r ∷ [])) (length rows) ≡ Some (meaning_after (meanings_in rows) r)
next-is rows r =
    ap₂ slice_get (push-in rows r) (sym (count-in rows)) ∙ slice_get-next (meanings_in rows) [] (meaning_after (meanings_in rows) r)

-- a row of a thing is right where it means one
pub thing-means : (rows : List Row) → IsFile rows → (r : Row) (x : Thing) → thing_made (lines_mean rows) r ≡ Some x → RightRow (meanings_in rows) r (meaning_after (meanings_in rows) r) × (meaning_after (meanings_in rows) r ≡ Means x)
thing-means rows h r x e =
    let all : List Meaning = meanings_in rows in
    let right : RightRow all r (Means x) = thing-right all (omega (arith, h.some, count-in rows)) r x e in
    let is : Means x ≡ meaning_after all r = means-is all r (Means x) right in
    (subst (RightRow all r) is right, sym is)

pub lines-next : (rows : List Row) → IsFile rows → (r : Row) (x : Thing) → thing_made (lines_mean rows) r ≡ Some x → lines_mean (rows ++ r ∷ []) (length rows) ≡ Some x
lines-next rows h r x e = ap (option_and_then thing_of) (next-is rows r ∙ ap Some (thing-means rows h r x e).1)

pub node-means : (rows : List Row) → IsFile rows → (r : Row) (J : Judgement) → RightRow (meanings_in rows) r (Concludes J) → RightRow (meanings_in rows) r (meaning_after (meanings_in rows) r) × (lines_conclude (rows ++ r ∷ []) (length rows) ≡ Some J)
node-means rows h r J right =
    let all : List Meaning = meanings_in rows in
    let is : Concludes J ≡ meaning_after all r = means-is all r (Concludes J) right in
    (subst (RightRow all r) is right, ap (option_and_then conclusion_of) (next-is rows r ∙ ap Some (sym is)))

-- each row is right after those before it

-- rows that are right end with more than they began
grows : (before : List Meaning) (rows : List Row) (all : List Meaning) → RightRows before rows all → (more : List Meaning) × (all ≡ before ++ more)
grows before [] all right = ([], right ∙ sym (append-nil before))
grows before (r ∷ rows) all right =
    let next = grows (before ++ right.0 ∷ []) rows all right.2 in
    (right.0 ∷ next.0, next.1 ∙ append_assoc before (right.0 ∷ []) next.0)

pub record RightAt (all : List Meaning) (k : ℕ) (r : Row) : Type 0 where
  pub before : List Meaning
  pub more : List Meaning
  pub meaning : Meaning
  pub right : RightRow before r meaning
  pub count : length before ≡ k
  pub whole : all ≡ before ++ meaning ∷ more

right-at : (before : List Meaning) (rows : List Row) (all : List Meaning) → RightRows before rows all → (k : ℕ) (r : Row) → slice_get rows k ≡ Some r → RightAt all (length before + k) r
right-at before [] all right k r e = cc
right-at before (s ∷ rows) all right zero r e =
    let next = grows (before ++ right.0 ∷ []) rows all right.2 in
    let same : s ≡ r = cc in
    record {
      before = before;
      more = next.0;
      meaning = right.0;
      right = subst (λ q. RightRow before q right.0) same right.1;
      count = omega arith;
      whole = next.1 ∙ append_assoc before (right.0 ∷ []) next.0;
    }
right-at before (s ∷ rows) all right (suc k) r e =
    subst (λ n. RightAt all n r) (omega (arith, length-append before (right.0 ∷ []))) (right-at (before ++ right.0 ∷ []) rows all right.2 k r e)

pub file-at : (rows : List Row) → IsFile rows → (k : ℕ) (r : Row) → slice_get rows k ≡ Some r → RightAt (meanings_in rows) k r
file-at rows h k r e = subst (λ n. RightAt (meanings_in rows) n r) (omega arith) (right-at [] rows (meanings_in rows) h.right k r e)
