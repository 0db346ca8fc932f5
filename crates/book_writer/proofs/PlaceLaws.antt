-- Rows and nodes of a book that stand in a file, as more of them come in.
use Rattle.std.proofs.Common.{◌≡◌, ℕ, ◌<◌, List, [], ◌∷◌, ◌++◌, length, map, refl, sym, ◌∙◌, ap, ap₂, subst, arith, Option, Some, None, IsSome, length-append}
use Rattle.std.specs.Prelude.{slice_get, slice_index_or}
use Rattle.std.specs.List.{All}
use Rattle.std.proofs.lemmas.Option.{slice_get_within}
use Rattle.std.proofs.lemmas.List.{get_or_append_left, get_or_push}
use Rattle.std.proofs.lemmas.List.Elements.{All-nil, All-cons, All-head, All-tail}
use Rattle.theory.specs.declared.rule.RuleName.{RuleName}
use Rattle.trees.specs.Judgements.{Judgement}
use Rattle.trees.specs.Things.{Thing, Meanings, Kept, both, consed, meanings}
use Rattle.trees.proofs.Meanings.{meanings-cons}
use Rattle.rows.proofs.OptionLaws.{one-some}
use Rattle.deriv_file.specs.declared.row.Row.{Row}
use Rattle.derivation.specs.Meanings.{conclusion_of}
use Rattle.derivation.specs.Right.{RightNode}
use Rattle.book.specs.Right.{IsUse}
use Rattle.book.specs.declared.kernel.NodeId.{NodeId}
use Rattle.book_writer.specs.Means.{meanings_in, lines_mean, lines_conclude, ConclusionsKept, ArePlaced, AreConcluded}
use Rattle.book_writer.proofs.MeansLaws.{count-in}
use Rattle.book_writer.proofs.RowsLaws.{up-to}

abbrev pub at : List ℕ → ℕ → ℕ
at places k = slice_index_or places k 0

-- one more, where what stood there stays
more-there : {A : Type 0} (f h h' : ℕ → Option A) (places : List ℕ) (place : ℕ) → ((k : ℕ) (x : A) → h k ≡ Some x → h' k ≡ Some x) → ((k : ℕ) (x : A) → k < length places → f k ≡ Some x → h (at places k) ≡ Some x) → ((x : A) → f (length places) ≡ Some x → h' place ≡ Some x) → (k : ℕ) (x : A) → k < length (places ++ place ∷ []) → f k ≡ Some x → h' (at (places ++ place ∷ []) k) ≡ Some x
more-there {A} f h h' places place kept are last k x lt e =
    let P : ℕ → Type 0 = λ j. (y : A) → f j ≡ Some y → h' (at (places ++ place ∷ []) j) ≡ Some y in
    let old : (j : ℕ) → j < length places → P j = λ j low y is. ap h' (get_or_append_left places (place ∷ []) 0 j low) ∙ kept (at places j) y (are j y low is) in
    let here : P (length places) = λ y is. ap h' (get_or_push places place 0 (length places) refl) ∙ last y is in
    up-to P (length places) old here k (omega (arith, length-append places (place ∷ []))) x e

pub placed-none : (f : Meanings) (rows : List Row) → ArePlaced f rows []
placed-none f rows = record { each = λ k x lt e. absurd (omega arith) }

pub placed-more : (f : Meanings) (rows rows' : List Row) (places : List ℕ) (place : ℕ) → ArePlaced f rows places → Kept (lines_mean rows) (lines_mean rows') → ((x : Thing) → f (length places) ≡ Some x → lines_mean rows' place ≡ Some x) → ArePlaced f rows' (places ++ place ∷ [])
placed-more f rows rows' places place are kept last = record {
  each = more-there f (lines_mean rows) (lines_mean rows') places place kept.keeps are.each last;
}

pub placed-kept : (f : Meanings) (rows rows' : List Row) (places : List ℕ) → ArePlaced f rows places → Kept (lines_mean rows) (lines_mean rows') → ArePlaced f rows' places
placed-kept f rows rows' places are kept = record {
  each = λ k x lt e. kept.keeps (at places k) x (are.each k x lt e);
}

pub concluded-none : (g : ℕ → Option Judgement) (rows : List Row) → AreConcluded g rows []
concluded-none g rows = record { each = λ k J lt e. absurd (omega arith) }

pub concluded-more : (g : ℕ → Option Judgement) (rows rows' : List Row) (nodes : List ℕ) (place : ℕ) → AreConcluded g rows nodes → ConclusionsKept (lines_conclude rows) (lines_conclude rows') → ((J : Judgement) → g (length nodes) ≡ Some J → lines_conclude rows' place ≡ Some J) → AreConcluded g rows' (nodes ++ place ∷ [])
concluded-more g rows rows' nodes place are kept last = record {
  each = more-there g (lines_conclude rows) (lines_conclude rows') nodes place kept.keeps are.each last;
}

-- lists of rows or nodes, each of which is there

there : {A : Type 0} (f h : ℕ → Option A) (places : List ℕ) → ((k : ℕ) (x : A) → k < length places → f k ≡ Some x → h (at places k) ≡ Some x) → ((k : ℕ) → IsSome (f k) → k < length places) → (ks : List ℕ) (xs : List A) → meanings f ks ≡ Some xs → meanings h (map (at places) ks) ≡ Some xs
there f h places are all [] xs e = e
there f h places are all (k ∷ ks) xs e =
    let m = meanings-cons f k ks xs e in
    let is = m.first_is in
    ap₂ (both consed) (are k m.first (all k (rw is refl)) is) (there f h places are all ks m.rest m.rest_is) ∙ ap Some (sym m.whole)

below : {A : Type 0} (f h : ℕ → Option A) (places : List ℕ) → ((k : ℕ) (x : A) → k < length places → f k ≡ Some x → h (at places k) ≡ Some x) → (ks : List ℕ) (xs : List A) → All (λ k. k < length places) ks → meanings f ks ≡ Some xs → meanings h (map (at places) ks) ≡ Some xs
below f h places are [] xs low e = e
below f h places are (k ∷ ks) xs low e =
    let m = meanings-cons f k ks xs e in
    ap₂ (both consed) (are k m.first (All-head (λ j. j < length places) k ks low) m.first_is) (below f h places are ks m.rest (All-tail (λ j. j < length places) k ks low) m.rest_is)
    ∙ ap Some (sym m.whole)

-- what means something stands among the places
pub all-low : {A : Type 0} (f : ℕ → Option A) (n : ℕ) → ((k : ℕ) → IsSome (f k) → k < n) → (ks : List ℕ) (xs : List A) → meanings f ks ≡ Some xs → All (λ k. k < n) ks
all-low f n all [] xs e = All-nil (λ k. k < n)
all-low f n all (k ∷ ks) xs e =
    let m = meanings-cons f k ks xs e in
    let is = m.first_is in
    All-cons (λ j. j < n) k ks (all k (rw is refl)) (all-low f n all ks m.rest m.rest_is)

-- a node whose parts and premises are there is right in the file
pub node-copied : (f : Meanings) (g : ℕ → Option Judgement) (rows : List Row) (places nodes : List ℕ) → ArePlaced f rows places → ((k : ℕ) → IsSome (f k) → k < length places) → AreConcluded g rows nodes → (rule : RuleName) (parts premises : List ℕ) (J : Judgement) → All (λ k. k < length nodes) premises → IsUse f g rule parts premises J → RightNode (meanings_in rows) rule (map (at places) parts) (map (at nodes) premises) J
node-copied f g rows places nodes are all concluded rule parts premises J early u = record {
  xs = u.things;
  Js = u.judgements;
  parts_are = there f (lines_mean rows) places are.each all parts u.things u.parts_are;
  premises_are = below g (lines_conclude rows) nodes concluded.each premises u.judgements early u.premises_are;
  instance = u.instance;
}

-- the same, of lists that hold where they are
pub node-right : (f : Meanings) (g : ℕ → Option Judgement) (rows : List Row) (places nodes : List ℕ) → ArePlaced f rows places → ((k : ℕ) → IsSome (f k) → k < length places) → AreConcluded g rows nodes → (node : ℕ) → node ≡ length nodes → (rule : RuleName) (parts premises : List ℕ) (J : Judgement) → All (λ k. k < node) premises → IsUse f g rule parts premises J → (ps qs : List ℕ) → ps ≡ map (at places) parts → qs ≡ map (at nodes) premises → RightNode (meanings_in rows) rule ps qs J
node-right f g rows places nodes are all concluded node next rule parts premises J early u ps qs ps_are qs_are =
    let here : RightNode (meanings_in rows) rule (map (at places) parts) (map (at nodes) premises) J = node-copied f g rows places nodes are all concluded rule parts premises J (subst (λ n. All (λ k. k < n) premises) next early) u in
    subst (λ xs. RightNode (meanings_in rows) rule xs qs J) (sym ps_are) (subst (λ ys. RightNode (meanings_in rows) rule (map (at places) parts) ys J) (sym qs_are) here)

-- the roots

pub roots-there : (g : ℕ → Option Judgement) (rows : List Row) (nodes : List ℕ) → AreConcluded g rows nodes → ((k : ℕ) → IsSome (g k) → k < length nodes) → (roots : List NodeId) (Js : List Judgement) → meanings g (map (λ (node : NodeId). node.0) roots) ≡ Some Js → meanings (lines_conclude rows) (map (λ (node : NodeId). at nodes node.0) roots) ≡ Some Js
roots-there g rows nodes are all [] Js e = e
roots-there g rows nodes are all (root ∷ roots) Js e =
    let m = meanings-cons g root.0 (map (λ (node : NodeId). node.0) roots) Js e in
    let is = m.first_is in
    ap₂ (both consed) (are.each root.0 m.first (all root.0 (rw is refl)) is) (roots-there g rows nodes are all roots m.rest m.rest_is)
    ∙ ap Some (sym m.whole)

-- the same, of places as they are held
pub roots-held : (g : ℕ → Option Judgement) (rows : List Row) (nodes : List ℕ) → AreConcluded g rows nodes → ((k : ℕ) → IsSome (g k) → k < length nodes) → (roots : List NodeId) (places found ks : List ℕ) → places ≡ nodes → found ≡ map (λ (node : NodeId). at places node.0) roots → ks ≡ found → (Js : List Judgement) → meanings g (map (λ (node : NodeId). node.0) roots) ≡ Some Js → meanings (lines_conclude rows) ks ≡ Some Js
roots-held g rows nodes are all roots places found ks same found_is ks_is Js e =
    ap (meanings (lines_conclude rows)) (ks_is ∙ found_is ∙ ap (λ (ns : List ℕ). map (λ (node : NodeId). at ns node.0) roots) same) ∙ roots-there g rows nodes are all roots Js e

pub roots-low : (g : ℕ → Option Judgement) (n : ℕ) → ((k : ℕ) → IsSome (g k) → k < n) → (roots : List NodeId) (Js : List Judgement) → meanings g (map (λ (node : NodeId). node.0) roots) ≡ Some Js → All (λ (node : NodeId). node.0 < n) roots
roots-low g n all [] Js e = All-nil (λ (node : NodeId). node.0 < n)
roots-low g n all (root ∷ roots) Js e =
    let m = meanings-cons g root.0 (map (λ (node : NodeId). node.0) roots) Js e in
    let is = m.first_is in
    All-cons (λ (node : NodeId). node.0 < n) root roots (all root.0 (rw is refl)) (roots-low g n all roots m.rest m.rest_is)

pub concludes-within : (rows : List Row) (k : ℕ) → IsSome (lines_conclude rows k) → k < length rows
concludes-within rows k some = from (lines_conclude rows k) refl some
  where
    from : (o : Option Judgement) → lines_conclude rows k ≡ o → IsSome o → k < length rows
    from None e some = cc
    from (Some J) e some =
        let o = one-some conclusion_of (slice_get (meanings_in rows) k) J e in
        omega (arith, slice_get_within (meanings_in rows) k o.first o.first_is, count-in rows)
