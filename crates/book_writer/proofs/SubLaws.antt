-- Rows of a file that are substitutions.
use Rattle.std.proofs.Common.{◌≡◌, ℕ, zero, suc, ◌<◌, ◌≤◌, List, [], ◌∷◌, ◌++◌, length, refl, sym, ◌∙◌, ap, ap₂, subst, arith, Some, None}
use Rattle.std.specs.Prelude.{slice_get, option_and_then}
use Rattle.std.specs.List.{All}
use Rattle.std.proofs.lemmas.Option.{slice_get_within}
use Rattle.std.proofs.lemmas.List.Elements.{All-head, All-tail}
use Rattle.trees.specs.declared.kind.PartKind.TheVariants as part
use Rattle.trees.specs.Trees.{Subst, shift_by, greatest_shift}
use Rattle.trees.specs.Things.{Thing, ASubst, Meanings, instance_of, pushed_on, with_variable, with_a_name, with_a_face}
use Rattle.rows.proofs.OptionLaws.{one-some, both-some}
use Rattle.rows.proofs.TableLaws.{slice_get-next}
use Rattle.rows.proofs.MeaningLaws.{both-kind, instance_of-kind, with_variable-kind, with_a_name-kind, with_a_face-kind}
use Rattle.interned.proofs.CodingLaws.{made-kind}
use Rattle.deriv_file.specs.declared.row.Row.{Row}
use Rattle.deriv_file.specs.declared.row.Row.TheVariants as row
use Rattle.derivation.specs.Meanings.{Meaning, Means, thing_of, thing_at}
use Rattle.derivation.specs.Right.{thing_made, RightRow}
use Rattle.book_writer.specs.Chains.{IsPlain}
use Rattle.book_writer.specs.Means.{meanings_in, lines_mean, IsFile}
use Rattle.book_writer.specs.Pushed.{PushedAt}
use Rattle.book_writer.proofs.ChainLaws.{thing-kept}
use Rattle.book_writer.proofs.RowLaws.{is-push}
use Rattle.book_writer.proofs.MeansLaws.{count-in, file-at}

pub all-at : {X : Type 0} (P : X → Type 0) (xs : List X) (k : ℕ) (x : X) → All P xs → slice_get xs k ≡ Some x → P x
all-at P [] k x all e = cc
all-at P (y ∷ xs) zero x all e = let same : y ≡ x = cc in subst P same (All-head P y xs all)
all-at P (y ∷ xs) (suc k) x all e = all-at P xs k x (All-tail P y xs all) e

pub there-at : {X : Type 0} (xs : List X) (k : ℕ) → k < length xs → (x : X) × (slice_get xs k ≡ Some x)
there-at [] k lt = absurd (omega arith)
there-at (x ∷ xs) zero lt = (x, refl)
there-at (x ∷ xs) (suc k) lt = there-at xs k (omega arith)

-- a right row that means a thing is made so
thing-row : (before : List Meaning) (r : Row) (m : Meaning) (x : Thing) → RightRow before r m → thing_of m ≡ Some x → thing_made (thing_at before) r ≡ Some x
thing-row [] (row.Header v) m x right e = let none : thing_of m ≡ None = ap thing_of right in cc
thing-row [] r m x right e = absurd right
thing-row (b ∷ before) (row.Header v) m x right e = absurd right
thing-row (b ∷ before) (row.Node rule parts premises) m x right e = let none : thing_of m ≡ None = ap thing_of right.2 in cc
thing-row (b ∷ before) (row.Root k) m x right e = let none : thing_of m ≡ None = ap thing_of right.2 in cc
thing-row (b ∷ before) r m x right e = from r right
  where
    made : (y : Thing) → m ≡ Means y → y ≡ x
    made y is = let there : thing_of m ≡ Some y = ap thing_of is in cc

    from : (r : Row) → RightRow (b ∷ before) r m → thing_made (thing_at (b ∷ before)) r ≡ Some x
    from (row.Header v) right = absurd right
    from (row.Node rule parts premises) right = let none : thing_of m ≡ None = ap thing_of right.2 in cc
    from (row.Root k) right = let none : thing_of m ≡ None = ap thing_of right.2 in cc
    from (row.Var k) right = right.1 ∙ ap Some (made right.0 right.2)
    from (row.Make op kids) right = right.1 ∙ ap Some (made right.0 right.2)
    from (row.Instance t d) right = right.1 ∙ ap Some (made right.0 right.2)
    from (row.Shift n) right = right.1 ∙ ap Some (made right.0 right.2)
    from (row.Push d t) right = right.1 ∙ ap Some (made right.0 right.2)
    from row.CtxNil right = right.1 ∙ ap Some (made right.0 right.2)
    from (row.CtxVar G A) right = right.1 ∙ ap Some (made right.0 right.2)
    from (row.CtxName G) right = right.1 ∙ ap Some (made right.0 right.2)
    from (row.CtxFace G p) right = right.1 ∙ ap Some (made right.0 right.2)

-- row k of a file is made over rows before it
pub record MadeAt (rows : List Row) (k : ℕ) (r : Row) (x : Thing) : Type 0 where
  pub before : List Meaning
  pub more : List Meaning
  pub count : length before ≡ k
  pub whole : meanings_in rows ≡ before ++ more
  pub made : thing_made (thing_at before) r ≡ Some x

pub made-at : (rows : List Row) → IsFile rows → (k : ℕ) (r : Row) (x : Thing) → slice_get rows k ≡ Some r → lines_mean rows k ≡ Some x → MadeAt rows k r x
made-at rows h k r x at e =
    let a = file-at rows h k r at in
    let here : slice_get (meanings_in rows) k ≡ Some a.meaning = ap₂ slice_get a.whole (sym a.count) ∙ slice_get-next a.before a.more a.meaning in
    let is : thing_of a.meaning ≡ Some x = ap (option_and_then thing_of) (sym here) ∙ e in
    record {
      before = a.before;
      more = a.meaning ∷ a.more;
      count = a.count;
      whole = a.whole;
      made = thing-row a.before r a.meaning x a.right is;
    }

pub sub-shift : (rows : List Row) → IsFile rows → (k n : ℕ) (d : Subst) → slice_get rows k ≡ Some (row.Shift n) → lines_mean rows k ≡ Some (ASubst d) → d ≡ shift_by n
sub-shift rows h k n d at e = let m = made-at rows h k (row.Shift n) (ASubst d) at e in let made = m.made in cc

pub sub-push : (rows : List Row) → IsFile rows → (k s t : ℕ) (d : Subst) → slice_get rows k ≡ Some (row.Push s t) → lines_mean rows k ≡ Some (ASubst d) → PushedAt rows k s t d
sub-push rows h k s t d at e =
    let m = made-at rows h k (row.Push s t) (ASubst d) at e in
    let b = both-some pushed_on (thing_at m.before s) (thing_at m.before t) (ASubst d) m.made in
    let p = is-push b.first b.second (ASubst d) b.whole in
    let o = one-some thing_of (slice_get m.before s) b.first b.first_is in
    let low = slice_get_within m.before s o.first o.first_is in
    let whole = p.whole in
    record {
      sub = p.sub;
      tree = p.tree;
      sub_is = ap (λ all. thing_at all s) m.whole ∙ thing-kept m.before m.more s b.first b.first_is ∙ ap Some p.sub_is;
      tree_is = ap (λ all. thing_at all t) m.whole ∙ thing-kept m.before m.more t b.second b.second_is ∙ ap Some p.tree_is;
      whole = cc;
      earlier = omega (arith, m.count);
    }

abbrev pub IsSubRow : Row → Type 0
IsSubRow (row.Shift n) = Unit {0}
IsSubRow (row.Push s t) = Unit {0}
IsSubRow _ = ⊥

-- no other row is a substitution
sub-row : (f : Meanings) (r : Row) (d : Subst) → thing_made f r ≡ Some (ASubst d) → IsSubRow r
sub-row f (row.Shift n) d e = tt
sub-row f (row.Push s t) d e = tt
sub-row f (row.Header v) d e = cc
sub-row f (row.Node rule parts premises) d e = cc
sub-row f (row.Root k) d e = cc
sub-row f (row.Var k) d e = cc
sub-row f (row.Make op kids) d e = let kind = made-kind f op kids (ASubst d) e in cc
sub-row f (row.Instance t s) d e = let kind = both-kind f instance_of part.Term instance_of-kind t s (ASubst d) e in cc
sub-row f row.CtxNil d e = cc
sub-row f (row.CtxVar G A) d e = let kind = both-kind f with_variable part.Context with_variable-kind G A (ASubst d) e in cc
sub-row f (row.CtxName G) d e = let o = one-some with_a_name (f G) (ASubst d) e in let kind = with_a_name-kind o.first (ASubst d) o.whole in cc
sub-row f (row.CtxFace G p) d e = let kind = both-kind f with_a_face part.Context with_a_face-kind G p (ASubst d) e in cc

pub sub-line : (rows : List Row) → IsFile rows → (k : ℕ) (r : Row) (d : Subst) → slice_get rows k ≡ Some r → lines_mean rows k ≡ Some (ASubst d) → IsSubRow r
sub-line rows h k r d at e = let m = made-at rows h k r (ASubst d) at e in sub-row (thing_at m.before) r d m.made

pub line-within : (rows : List Row) (k : ℕ) (x : Thing) → lines_mean rows k ≡ Some x → k < length rows
line-within rows k x e =
    let o = one-some thing_of (slice_get (meanings_in rows) k) x e in
    omega (arith, slice_get_within (meanings_in rows) k o.first o.first_is, count-in rows)

-- each shift is one that a file has

fit-below : (rows : List Row) → IsFile rows → (n k : ℕ) → k < n → (d : Subst) → lines_mean rows k ≡ Some (ASubst d) → d.shift ≤ greatest_shift
fit-below rows h zero k lt d e = absurd (omega arith)
fit-below rows h (suc n) k lt d e =
    let t = there-at rows k (line-within rows k (ASubst d) e) in
    from (λ s low f is. fit-below rows h n s low f is) t.0 t.1 (sub-line rows h k t.0 d t.1 e)
  where
    from : ((s : ℕ) → s < n → (f : Subst) → lines_mean rows s ≡ Some (ASubst f) → f.shift ≤ greatest_shift) → (r : Row) → slice_get rows k ≡ Some r → IsSubRow r → d.shift ≤ greatest_shift
    from earlier (row.Shift i) at is =
        let same = sub-shift rows h k i d at e in
        let fit : i ≤ greatest_shift = all-at IsPlain rows k (row.Shift i) h.plain at in
        let shift : d.shift ≡ i = ap (λ (s : Subst). s.shift) same in
        omega arith
    from earlier (row.Push s t) at is =
        let p = sub-push rows h k s t d at e in
        let shift : d.shift ≡ p.sub.shift = ap (λ (s : Subst). s.shift) p.whole in
        let low = p.earlier in
        let fit = earlier s (omega arith) p.sub p.sub_is in
        omega arith
    from earlier r at is = absurd is

pub lines-fit : (rows : List Row) → IsFile rows → (k : ℕ) (d : Subst) → lines_mean rows k ≡ Some (ASubst d) → d.shift ≤ greatest_shift
lines-fit rows h k d e = fit-below rows h (suc k) k (omega arith) d e
