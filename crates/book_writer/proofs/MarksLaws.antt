-- Marks as they are set, and rows as they come to be marked from the last to the first.
use Rattle.std.proofs.Common.{◌≡◌, ℕ, zero, suc, ◌+◌, ◌<◌, ◌≤◌, ◌⊎◌, inl, inr, nat_lt, Bool, true, false, List, [], ◌∷◌, ◌++◌, length, get_or, set, take, replicate, refl, sym, ◌∙◌, ap, subst, arith, Some}
use Rattle.std.specs.Prelude.{slice_get}
use Rattle.std.specs.List.{All, Contains}
use Rattle.std.proofs.lemmas.Option.{slice_get_within}
use Rattle.std.proofs.lemmas.List.{length-set, length-replicate, take-append-drop, take_more, take_all}
use Rattle.std.proofs.lemmas.List.Elements.{All-nil, All-head, All-more, All-weaker, All-contains, Contains-append_left, Contains-push, Contains-push_cases}
use borrow.Author.Tests.{ltb-true, ltb-false}
use Rattle.theory.specs.RuleNames.{kinds_of}
use Rattle.deriv_file.specs.declared.row.Row.{Row}
use Rattle.book_writer.specs.declared.lines.RowHead.{RowHead}
use Rattle.book_writer.specs.declared.lines.RowHead.TheVariants as head
use Rattle.book_writer.specs.Held.{names_of, row_of}
use Rattle.book_writer.specs.Means.{IsFile}
use Rattle.book_writer.specs.Names.{names_in}
use Rattle.book_writer.specs.Served.{IsMarked, Marks, Reached, asked, named, AreServed}
use Rattle.book_writer.proofs.MeansLaws.{file-at}
use Rattle.book_writer.proofs.MarkLaws.{right-names}

-- one mark more

set-there : (marks : List Bool) (i : ℕ) → i < length marks → IsMarked (set marks i true) i
set-there [] i lt = absurd (omega arith)
set-there (m ∷ marks) zero lt = refl
set-there (m ∷ marks) (suc i) lt = set-there marks i (omega arith)

set-kept : (marks : List Bool) (i k : ℕ) → IsMarked marks k → IsMarked (set marks i true) k
set-kept [] i k e = cc
set-kept (m ∷ marks) zero zero e = refl
set-kept (m ∷ marks) zero (suc k) e = e
set-kept (m ∷ marks) (suc i) zero e = e
set-kept (m ∷ marks) (suc i) (suc k) e = set-kept marks i k e

set-only : (marks : List Bool) (i k : ℕ) → IsMarked (set marks i true) k → (k ≡ i) ⊎ IsMarked marks k
set-only [] i k e = inr e
set-only (m ∷ marks) zero zero e = inl refl
set-only (m ∷ marks) zero (suc k) e = inr e
set-only (m ∷ marks) (suc i) zero e = inr e
set-only (m ∷ marks) (suc i) (suc k) e = elim (set-only marks i k e) [ inl is ↦ inl (ap suc is) | inr old ↦ inr old ]

pub marks-none : (old : List Bool) (rows : List ℕ) → Marks old (take 0 rows) old
marks-none old rows = record {
  count = refl;
  kept = λ k m. m;
  all = All-nil (IsMarked old);
  only = λ k m. inl m;
}

pub marks-more : (old : List Bool) (rows : List ℕ) (new : List Bool) (i : ℕ) → Marks old (take i rows) new → i < length rows → get_or rows i 0 < length old → Marks old (take (i + 1) rows) (set new (get_or rows i 0) true)
marks-more old rows new i h lt within =
    let row : ℕ = get_or rows i 0 in
    let next : List Bool = set new row true in
    let here : IsMarked next row = set-there new row (omega (arith, h.count)) in
    let more : take (i + 1) rows ≡ take i rows ++ row ∷ [] = take_more rows i 0 lt in
    let last : Contains (take (i + 1) rows) row = subst (λ rs. Contains rs row) (sym more) (Contains-push (take i rows) row) in
    let first : (k : ℕ) → Contains (take i rows) k → Contains (take (i + 1) rows) k = λ k c. subst (λ rs. Contains rs k) (sym more) (Contains-append_left (take i rows) (row ∷ []) k c) in
    record {
      count = length-set new row true ∙ h.count;
      kept = λ k m. set-kept new row k (h.kept k m);
      all = All-more (IsMarked next) rows i 0 lt (All-weaker (IsMarked new) (IsMarked next) (λ k m. set-kept new row k m) (take i rows) h.all) here;
      only = λ k m. elim (set-only new row k m) [
        | inl is ↦ inr (subst (Contains (take (i + 1) rows)) (sym is) last)
        | inr was ↦ elim (h.only k was) [ inl before ↦ inl before | inr among ↦ inr (first k among) ]
      ];
    }

pub marks-all : (old : List Bool) (rows : List ℕ) (new : List Bool) (i : ℕ) → Marks old (take i rows) new → length rows ≤ i → Marks old rows new
marks-all old rows new i h end = subst (λ rs. Marks old rs new) (take_all i rows end) h

-- what a row of a file names stands before it
pub names-below : (rows : List Row) → IsFile rows → (k : ℕ) (r : Row) → slice_get rows k ≡ Some r → All (λ j. j < k) (names_in r)
names-below rows h k r e =
    let a = file-at rows h k r e in
    subst (λ n. All (λ j. j < n) (names_in r)) a.count (right-names a.before r a.meaning a.right)

pub names-row : (h : RowHead) (names : List ℕ) → length names ≡ names_of h → names_in (row_of h names) ≡ names
names-row (head.Make op) names e = refl
names-row (head.Node rule) names e = take-append-drop (length (kinds_of rule)) names
names-row head.Instance [] e = absurd (omega arith)
names-row head.Instance (a ∷ []) e = absurd (omega arith)
names-row head.Instance (a ∷ b ∷ []) e = refl
names-row head.Instance (a ∷ b ∷ x ∷ names) e = absurd (omega arith)
names-row head.Push [] e = absurd (omega arith)
names-row head.Push (a ∷ []) e = absurd (omega arith)
names-row head.Push (a ∷ b ∷ []) e = refl
names-row head.Push (a ∷ b ∷ x ∷ names) e = absurd (omega arith)
names-row head.CtxVar [] e = absurd (omega arith)
names-row head.CtxVar (a ∷ []) e = absurd (omega arith)
names-row head.CtxVar (a ∷ b ∷ []) e = refl
names-row head.CtxVar (a ∷ b ∷ x ∷ names) e = absurd (omega arith)
names-row head.CtxFace [] e = absurd (omega arith)
names-row head.CtxFace (a ∷ []) e = absurd (omega arith)
names-row head.CtxFace (a ∷ b ∷ []) e = refl
names-row head.CtxFace (a ∷ b ∷ x ∷ names) e = absurd (omega arith)
names-row head.CtxName [] e = absurd (omega arith)
names-row head.CtxName (a ∷ []) e = refl
names-row head.CtxName (a ∷ b ∷ names) e = absurd (omega arith)
names-row head.Header [] e = refl
names-row head.Header (a ∷ names) e = absurd (omega arith)
names-row (head.Var k) [] e = refl
names-row (head.Var k) (a ∷ names) e = absurd (omega arith)
names-row (head.Shift n) [] e = refl
names-row (head.Shift n) (a ∷ names) e = absurd (omega arith)
names-row head.CtxNil [] e = refl
names-row head.CtxNil (a ∷ names) e = absurd (omega arith)

-- the rows from `left` on are done
pub record Marking (rows : List Row) (roots : List ℕ) (left : ℕ) (marks : List Bool) : Type 0 where
  pub count : length marks ≡ length rows
  pub few : left ≤ length rows
  pub header : IsMarked marks 0
  pub roots_marked : All (IsMarked marks) roots
  pub closed : (k : ℕ) (r : Row) → left ≤ k → slice_get rows k ≡ Some r → IsMarked marks k → All (IsMarked marks) (names_in r)
  pub reached : (k : ℕ) → 0 < k → IsMarked marks k → Reached rows roots k

no-mark : (n k : ℕ) → IsMarked (replicate n false) k → ⊥
no-mark zero k e = cc
no-mark (suc n) zero e = cc
no-mark (suc n) (suc k) e = no-mark n k e

contains-one : (x k : ℕ) → Contains (x ∷ []) k → x ≡ k
contains-one x k c = elim (Contains-push_cases [] x k c) [ inl none ↦ absurd (omega (arith, none.1)) | inr is ↦ is ]

pub marking-start : (rows : List Row) (roots : List ℕ) (zeros first marks : List Bool) → zeros ≡ replicate (length rows) false → Marks zeros (0 ∷ []) first → Marks first roots marks → Marking rows roots (length rows) marks
marking-start rows roots zeros first marks none f m =
    let clear : (k : ℕ) → IsMarked zeros k → ⊥ = λ k is. no-mark (length rows) k (subst (λ ms. IsMarked ms k) none is) in
    record {
      count = m.count ∙ f.count ∙ ap length none ∙ length-replicate (length rows) false;
      few = omega arith;
      header = m.kept 0 (All-head (IsMarked first) 0 [] f.all);
      roots_marked = m.all;
      closed = λ k r le e is. absurd (omega (arith, slice_get_within rows k r e));
      reached = λ k lt is. elim (m.only k is) [
        | inl was ↦ elim (f.only k was) [ inl old ↦ absurd (clear k old) | inr zero' ↦ absurd (omega (arith, contains-one 0 k zero')) ]
        | inr among ↦ asked among
      ];
    }

-- what holds at n and above it
pub from-here : (P : ℕ → Type 0) (n : ℕ) → P n → ((k : ℕ) → suc n ≤ k → P k) → (k : ℕ) → n ≤ k → P k
from-here P n here above k le = from (nat_lt n k) refl
  where
    from : (b : Bool) → nat_lt n k ≡ b → P k
    from true is = above k (omega (arith, ltb-true n k is))
    from false is = let same : n ≡ k = omega (arith, ltb-false n k is) in subst P same here

pub marking-on : (rows : List Row) → IsFile rows → (roots : List ℕ) (left next : ℕ) (marks new : List Bool) (r : Row) → left ≡ suc next → slice_get rows next ≡ Some r → IsMarked marks next → Marks marks (names_in r) new → Marking rows roots left marks → Marking rows roots next new
marking-on rows h roots left next marks new r more at here m g =
    let low : All (λ j. j < next) (names_in r) = names-below rows h next r at in
    let named-low : (k : ℕ) → Contains (names_in r) k → k < next = λ k c. All-contains (λ j. j < next) (names_in r) k low c in
    let few = g.few in
    let P : ℕ → Type 0 = λ k. (q : Row) → slice_get rows k ≡ Some q → IsMarked new k → All (IsMarked new) (names_in q) in
    let first : P next = λ q e is. let same : r ≡ q = cc in subst (λ s. All (IsMarked new) (names_in s)) same m.all in
    let was : (k : ℕ) → suc next ≤ k → IsMarked new k → IsMarked marks k = λ k le is. elim (m.only k is) [ inl old ↦ old | inr c ↦ absurd (omega (arith, named-low k c)) ] in
    let above : (k : ℕ) → suc next ≤ k → P k = λ k le q e is. All-weaker (IsMarked marks) (IsMarked new) (λ j w. m.kept j w) (names_in q) (g.closed k q (omega arith) e (was k le is)) in
    record {
      count = m.count ∙ g.count;
      few = omega arith;
      header = m.kept 0 g.header;
      roots_marked = All-weaker (IsMarked marks) (IsMarked new) (λ j w. m.kept j w) roots g.roots_marked;
      closed = λ k q le e is. from-here P next first above k le q e is;
      reached = λ k lt is. elim (m.only k is) [
        | inl was ↦ g.reached k lt was
        | inr c ↦ named next r (g.reached next (omega (arith, named-low k c)) here) at c
      ];
    }

-- the same of a line that is marked
pub marking-line : (rows : List Row) → IsFile rows → (roots : List ℕ) (left next : ℕ) (marks new : List Bool) (h : RowHead) (names : List ℕ) → left ≡ suc next → slice_get rows next ≡ Some (row_of h names) → length names ≡ names_of h → IsMarked marks next → Marks marks names new → Marking rows roots left marks → Marking rows roots next new
marking-line rows file roots left next marks new h names more at count here m g =
    marking-on rows file roots left next marks new (row_of h names) more at here (subst (λ ns. Marks marks ns new) (sym (names-row h names count)) m) g

pub marking-skip : (rows : List Row) (roots : List ℕ) (left next : ℕ) (marks : List Bool) → left ≡ suc next → (IsMarked marks next → ⊥) → Marking rows roots left marks → Marking rows roots next marks
marking-skip rows roots left next marks more none g =
    let few = g.few in
    let P : ℕ → Type 0 = λ k. (q : Row) → slice_get rows k ≡ Some q → IsMarked marks k → All (IsMarked marks) (names_in q) in
    record {
      count = g.count;
      few = omega arith;
      header = g.header;
      roots_marked = g.roots_marked;
      closed = λ k q le e is. from-here P next (λ s f there. absurd (none there)) (λ j low s f there. g.closed j s (omega arith) f there) k le q e is;
      reached = g.reached;
    }

pub marking-end : (rows : List Row) (roots : List ℕ) (left : ℕ) (marks : List Bool) → left ≡ 0 → Marking rows roots left marks → AreServed rows roots marks
marking-end rows roots left marks none g = record {
  count = g.count;
  header = g.header;
  roots_marked = g.roots_marked;
  closed = λ k r e is. g.closed k r (omega arith) e is;
  reached = g.reached;
}
