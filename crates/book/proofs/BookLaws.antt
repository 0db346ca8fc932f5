-- What a book's nodes are after a rule is concluded, that they are provable, and the first of them.
use Rattle.std.proofs.Common.{◌≡◌, ℕ, zero, suc, ◌<◌, ◌≤◌, inl, inr, List, [], ◌∷◌, ◌++◌, length, refl, sym, ◌∙◌, ap, subst, arith, Option, Some, IsSome, length-append}
use Rattle.std.specs.Prelude.{slice_get, option_and_then}
use Rattle.std.specs.List.{All}
use Rattle.std.proofs.lemmas.List.{append-nil}
use Rattle.std.proofs.lemmas.Option.{slice_get_within}
use Rattle.std.proofs.lemmas.List.Elements.{All-nil, All-cons, All-head, All-tail, All-contains}
use Rattle.theory.specs.declared.rule.RuleName.{RuleName}
use Rattle.trees.specs.declared.claim.Claim.{Claim}
use Rattle.trees.specs.Judgements.{Judgement}
use Rattle.trees.specs.Things.{Thing, Meanings, Kept, meanings}
use Rattle.trees.specs.Claimed.{claimed}
use Rattle.trees.proofs.Meanings.{meanings-cons}
use Rattle.region.specs.Held.{IsInterned}
use Rattle.rows.specs.Tables.{Grows}
use Rattle.rows.proofs.OptionLaws.{one-some}
use Rattle.rows.proofs.TableLaws.{grows-same, length-built}
use Rattle.rules.specs.Claims.{rule_over, conclusion_of}
use Rattle.derivation.specs.Derivations.{Provable, by_rule}
use Rattle.interned.specs.Coded.{thing_of, things_coded}
use Rattle.book.specs.Contents.{Contents}
use Rattle.book.specs.Nodes.{Node, node_coded, node_at, judgement_of, concluded}
use Rattle.book.specs.Coded.{node_from}
use Rattle.book.specs.Right.{IsUse, IsRight, AreRight}
use Rattle.book.specs.Shown.{book_means, book_nodes, book_concludes, Extends}
use Rattle.book.proofs.NodeLaws.{use-kept, concluded-kept, node_at-prefix}

-- what a use of a rule concludes

pub use-concludes : (f : Meanings) (g : ℕ → Option Judgement) (rule : RuleName) (parts premises : List ℕ) (J : Judgement) → IsUse f g rule parts premises J → conclusion_of (rule_over rule (meanings f parts)) ≡ Some J
use-concludes f g rule parts premises J u = rw (u.parts_are, u.instance.is) (ap Some (sym u.instance.gives))

-- a node that concludes something is there
pub node-there : (b : Contents) (k : ℕ) (J : Judgement) → book_concludes b k ≡ Some J → IsSome (book_nodes b k)
node-there b k J e =
    let o = one-some (judgement_of (book_means b)) (node_at b.nodes k) J e in
    let is = o.first_is in
    rw is refl

-- nodes that conclude something are there
premises-there : (f : Meanings) (nodes : List (List ℕ)) (ks : List ℕ) (Js : List Judgement) → meanings (concluded f nodes) ks ≡ Some Js → All (λ j. j < length nodes) ks
premises-there f nodes [] Js e = All-nil (λ j. j < length nodes)
premises-there f nodes (k ∷ ks) Js e =
    let m = meanings-cons (concluded f nodes) k ks Js e in
    let o = one-some (judgement_of f) (node_at nodes k) m.first m.first_is in
    let w = one-some node_coded (slice_get nodes k) o.first o.first_is in
    All-cons (λ j. j < length nodes) k ks (slice_get_within nodes k w.first w.first_is) (premises-there f nodes ks m.rest m.rest_is)

-- a new node is right, where its claim says what its rule gives
pub right-new : (f g : Meanings) (nodes : List (List ℕ)) → Kept f g → (rule : RuleName) (parts premises : List ℕ) (J : Judgement) → IsUse f (concluded f nodes) rule parts premises J → (c : Claim) (words : List ℕ) → claimed g c ≡ conclusion_of (rule_over rule (meanings f parts)) → node_coded words ≡ Some (node_from rule c parts premises) → IsRight g nodes (length nodes) words
right-new f g nodes kept rule parts premises J u c words says is = record {
  node = node_from rule c parts premises;
  is = is;
  judgement = J;
  concludes = says ∙ use-concludes f (concluded f nodes) rule parts premises J u;
  use_is = subst (λ ns. IsUse g (concluded g ns) rule parts premises J) (append-nil nodes) (use-kept f g nodes [] kept rule parts premises J u);
  earlier = premises-there f nodes premises u.judgements u.premises_are;
}

-- the same, as a book sees its parts, premises and words
pub right-concluded : (b old : Contents) → old ≡ b → (g : Meanings) → Kept (slice_get (things_coded old.rows)) g → (rule : RuleName) (parts premises : List ℕ) (J : Judgement) → IsUse (book_means b) (book_concludes b) rule parts premises J → (ps qs : List ℕ) → ps ≡ parts → qs ≡ premises → (c : Claim) → claimed g c ≡ conclusion_of (rule_over rule (meanings (slice_get (things_coded old.rows)) ps)) → (words row : List ℕ) → node_coded words ≡ Some (node_from rule c ps qs) → row ≡ words → IsRight g old.nodes (length old.nodes) row
right-concluded b old is g kept rule parts premises J u ps qs same_parts same_premises c says words row coded same_words =
    let f : Meanings = slice_get (things_coded old.rows) in
    let here : IsUse f (concluded f old.nodes) rule parts premises J = subst (λ (d : Contents). IsUse (book_means d) (book_concludes d) rule parts premises J) (sym is) u in
    let this : IsUse f (concluded f old.nodes) rule ps qs J = subst (λ xs. IsUse f (concluded f old.nodes) rule xs qs J) (sym same_parts) (subst (λ ys. IsUse f (concluded f old.nodes) rule parts ys J) (sym same_premises) here) in
    right-new f g old.nodes kept rule ps qs J this c row says (ap node_coded same_words ∙ coded)

-- every node is provable

provable-each : (f : Meanings) (nodes : List (List ℕ)) (k : ℕ) (ks : List ℕ) (Js : List Judgement) → All (λ j. j < k) ks → meanings (concluded f nodes) ks ≡ Some Js → ((j : ℕ) → j < k → (K : Judgement) → concluded f nodes j ≡ Some K → Provable K) → All Provable Js
provable-each f nodes k [] [] below e each = All-nil Provable
provable-each f nodes k [] (J ∷ Js) below e each = cc
provable-each f nodes k (j ∷ ks) Js below e each =
    let m = meanings-cons (concluded f nodes) j ks Js e in
    subst (All Provable) (sym m.whole)
    (All-cons Provable m.first m.rest (each j (All-head (λ i. i < k) j ks below) m.first m.first_is)
    (provable-each f nodes k ks m.rest (All-tail (λ i. i < k) j ks below) m.rest_is each))

provable-below : (f : Meanings) (nodes : List (List ℕ)) → AreRight f nodes → (n k : ℕ) → k < n → (J : Judgement) → concluded f nodes k ≡ Some J → Provable J
provable-below f nodes h zero k lt J e = absurd (omega arith)
provable-below f nodes h (suc n) k lt J e =
    let o = one-some (judgement_of f) (node_at nodes k) J e in
    let w = one-some node_coded (slice_get nodes k) o.first o.first_is in
    let r = h.each k w.first w.first_is in
    let is = r.is in
    let whole = w.whole in
    let same : r.node ≡ o.first = cc in
    let says : judgement_of f r.node ≡ Some J = ap (judgement_of f) same ∙ o.whole in
    let concludes = r.concludes in
    let J_is : r.judgement ≡ J = cc in
    let u = r.use_is in
    subst Provable J_is
    (by_rule r.node.rule u.things u.judgements r.judgement u.instance
    (λ K among. All-contains Provable u.judgements K
    (provable-each f nodes k r.node.premises u.judgements r.earlier u.premises_are (λ j below. provable-below f nodes h n j (omega arith))) among))

pub nodes-provable : (f : Meanings) (nodes : List (List ℕ)) → AreRight f nodes → (k : ℕ) (J : Judgement) → concluded f nodes k ≡ Some J → Provable J
nodes-provable f nodes h k = provable-below f nodes h (suc k) k (omega arith)

-- a book that has grown

pub grows-equal : (nodes nodes' : List (List ℕ)) → nodes' ≡ nodes → Grows nodes nodes'
grows-equal nodes nodes' same = ([], same ∙ sym (append-nil nodes))

pub interned-grows : (rows : List (List ℕ)) (words : List ℕ) (rows' : List (List ℕ)) → IsInterned rows words rows' → Grows rows rows'
interned-grows rows words rows' (inl old) = subst (Grows rows) (sym old.1) (grows-same rows)
interned-grows rows words rows' (inr new) = (words ∷ [], new.1)

kept-length : (xs ys : List Thing) → Kept (slice_get xs) (slice_get ys) → length xs ≤ length ys
kept-length xs ys kept = from (length xs) refl
  where
    there : (xs : List Thing) (k : ℕ) → k < length xs → (x : Thing) × (slice_get xs k ≡ Some x)
    there [] k lt = absurd (omega arith)
    there (x ∷ xs) zero lt = (x, refl)
    there (x ∷ xs) (suc k) lt = there xs k (omega arith)

    from : (n : ℕ) → n ≡ length xs → n ≤ length ys
    from zero e = omega arith
    from (suc n) e =
        let t = there xs n (omega arith) in
        let within = slice_get_within ys n t.0 (kept.keeps n t.0 t.1) in
        omega arith

same-place : (xs more : List (List ℕ)) (k : ℕ) → k < length xs → slice_get xs k ≡ slice_get (xs ++ more) k
same-place [] more k lt = absurd (omega arith)
same-place (x ∷ xs) more zero lt = refl
same-place (x ∷ xs) more (suc k) lt = same-place xs more k (omega arith)

pub extends-grown : (old new : Contents) → Kept (slice_get (things_coded old.rows)) (slice_get (things_coded new.rows)) → Grows old.nodes new.nodes → Extends old new
extends-grown old new kept grows = record {
  rows = kept;
  nodes = λ k n e. ap (λ ns. node_at ns k) grows.1 ∙ node_at-prefix old.nodes grows.0 k n e;
  conclusions = λ k J e. ap (λ ns. concluded (slice_get (things_coded new.rows)) ns k) grows.1 ∙ concluded-kept (slice_get (things_coded old.rows)) (slice_get (things_coded new.rows)) old.nodes grows.0 kept k J e;
  marks = λ mark m. record {
    rows_there = omega (arith, m.rows_there, kept-length (things_coded old.rows) (things_coded new.rows) kept, length-built thing_of old.rows, length-built thing_of new.rows);
    nodes_there = omega (arith, m.nodes_there, ap length grows.1, length-append old.nodes grows.0);
    within = λ k n lt e. m.within k n lt (earlier k n (let there = m.nodes_there in omega arith) e);
  };
}
  where
    earlier : (k : ℕ) (n : Node) → k < length old.nodes → node_at new.nodes k ≡ Some n → node_at old.nodes k ≡ Some n
    earlier k n lt e = ap (option_and_then node_coded) (same-place old.nodes grows.0 k lt ∙ ap (λ ns. slice_get ns k) (sym grows.1)) ∙ e

-- the same of a book that is seen so

pub extends-along : (b old new : Contents) → old ≡ b → Kept (slice_get (things_coded old.rows)) (slice_get (things_coded new.rows)) → Grows old.nodes new.nodes → Extends b new
extends-along b old new is kept grows = subst (λ (c : Contents). Extends c new) is (extends-grown old new kept grows)

pub extends-same : (b old new : Contents) → old ≡ b → things_coded new.rows ≡ things_coded old.rows → new.nodes ≡ old.nodes → Extends b new × Extends new b
extends-same b old new is rows nodes =
    let there : Kept (slice_get (things_coded old.rows)) (slice_get (things_coded new.rows)) = record { keeps = λ k x e. ap (λ xs. slice_get xs k) rows ∙ e } in
    let back : Kept (slice_get (things_coded new.rows)) (slice_get (things_coded old.rows)) = record { keeps = λ k x e. ap (λ xs. slice_get xs k) (sym rows) ∙ e } in (
      extends-along b old new is there ([], nodes ∙ sym (append-nil old.nodes)),
      subst (λ (c : Contents). Extends new c) is (extends-grown new old back ([], sym nodes ∙ sym (append-nil new.nodes))),
    )
