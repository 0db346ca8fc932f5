-- What the nodes of a book become is right, and concludes what they do.
use Rattle.std.proofs.Common.{◌≡◌, ℕ, suc, ◌+◌, ◌<◌, ◌⊎◌, inl, inr, List, [], ◌∷◌, ◌++◌, length, take, map, refl, sym, ◌∙◌, ap, ap₂, subst, arith, Option, Some, None, length-append, append_assoc}
use Rattle.std.specs.Prelude.{slice_get, option_and_then}
use Rattle.std.specs.List.{All, flat_map}
use Rattle.std.proofs.lemmas.List.{append-nil}
use Rattle.std.proofs.lemmas.List.Elements.{All-nil, All-cons, All-head, All-tail, All-append}
use Rattle.trees.specs.Judgements.{Judgement}
use Rattle.trees.specs.Things.{Thing, Meanings, both, consed, meanings}
use Rattle.trees.proofs.Meanings.{meanings-cons}
use Rattle.rows.proofs.OptionLaws.{one-some}
use Rattle.rows.proofs.TableLaws.{slice_get-prefix, slice_get-next, take-prefix}
use Rattle.deriv_file.specs.declared.row.Row.{Row}
use Rattle.deriv_file.specs.declared.row.Row.TheVariants as row
use Rattle.derivation.specs.Meanings.{Meaning, Concludes, Nothing, conclusion_of, conclusion_at}
use Rattle.derivation.specs.Right.{RightNode, RightRow, RightRows}
use Rattle.derivation.proofs.PrefixLaws.{rows_whole}
use Rattle.book.specs.Nodes.{Node, node_coded}
use Rattle.book.specs.Right.{IsUse}
use Rattle.book_writer.specs.Chains.{IsPlain, Spelt}
use Rattle.book_writer.specs.Spelling.{file_of, chain_at, place, node_row, node_rows, node_place, count_nodes}
use Rattle.book_writer.proofs.RowLaws.{Placed, placed-kept, all-placed}
use Rattle.book_writer.proofs.RowsLaws.{right-length, flat_map-append, up-to}

-- Node k, and what it concludes: an instance of its rule over earlier nodes. Or there is none, where
-- it is left out.
pub record NodeThere (f : Meanings) (g : ℕ → Option Judgement) (k : ℕ) (words : List ℕ) : Type 0 where
  pub node : Node
  pub is : node_coded words ≡ Some node
  pub judgement : Judgement
  pub concludes : g k ≡ Some judgement
  pub use_is : IsUse f g node.rule node.parts node.premises judgement
  pub earlier : All (λ j. j < k) node.premises

abbrev pub NodeLive : Meanings → (ℕ → Option Judgement) → ℕ → List ℕ → Type 0
NodeLive f g k words = NodeThere f g k words ⊎ ((node_coded words ≡ None) × (g k ≡ None))

pub conclusion-kept : (all more : List Meaning) (k : ℕ) (J : Judgement) → conclusion_at all k ≡ Some J → conclusion_at (all ++ more) k ≡ Some J
conclusion-kept all more k J e =
    let o = one-some conclusion_of (slice_get all k) J e in
    ap (option_and_then conclusion_of) (slice_get-prefix all more k o.first o.first_is) ∙ o.whole

conclusion-next : (all : List Meaning) (J : Judgement) → conclusion_at (all ++ Concludes J ∷ []) (length all) ≡ Some J
conclusion-next all J = ap (option_and_then conclusion_of) (slice_get-next all [] (Concludes J))

node-right : (all : List Meaning) → 0 < length all → (n : Node) (J : Judgement) (parts premises : List ℕ) → RightNode all n.rule parts premises J → RightRow all (row.Node n.rule parts premises) (Concludes J)
node-right [] some n J parts premises right = absurd (omega arith)
node-right (m ∷ all) some n J parts premises right = (J, right, refl)

pub root-right : (all : List Meaning) → 0 < length all → (k : ℕ) (J : Judgement) → conclusion_at all k ≡ Some J → RightRow all (row.Root k) Nothing
root-right [] some k J e = absurd (omega arith)
root-right (m ∷ all) some k J e = (J, e, refl)

-- nodes over rows of a file that mean what the book's do
module _ (f : Meanings) (g : ℕ → Option Judgement) (known : List Spelt) (nodes : List (List ℕ)) where
  abbrev pub first : ℕ
  first = length (file_of known)

  abbrev pub at : ℕ → ℕ
  at = node_place nodes first

  abbrev pub rows_for : List (List ℕ) → List Row
  rows_for words = flat_map (λ ws. node_rows known at (node_coded ws)) words

  -- the nodes that are done
  pub record NodesSpelt (done : List (List ℕ)) : Type 0 where
    pub all : List Meaning
    pub right : RightRows [] (file_of known ++ rows_for done) all
    pub fit : All IsPlain (file_of known ++ rows_for done)
    pub things : (k : ℕ) (x : Thing) → f k ≡ Some x → Placed all (chain_at known k) x
    pub conclusions : (k : ℕ) (J : Judgement) → k < length done → g k ≡ Some J → conclusion_at all (at k) ≡ Some J

  count-rows : (words : List (List ℕ)) → length (rows_for words) ≡ count_nodes words
  count-rows [] = refl
  count-rows (ws ∷ words) = from (node_coded ws) refl (count-rows words)
    where
      from : (o : Option Node) → node_coded ws ≡ o → length (rows_for words) ≡ count_nodes words → length (rows_for (ws ∷ words)) ≡ count_nodes (ws ∷ words)
      from None e rest = rw e (omega (arith, rest))
      from (Some n) e rest = rw e (omega (arith, rest))

  -- where the next node stands
  next-place : (done rest : List (List ℕ)) (words : List ℕ) → nodes ≡ done ++ words ∷ rest → at (length done) ≡ length (file_of known ++ rows_for done)
  next-place done rest words e =
      let cut : take (length done) nodes ≡ done = ap (take (length done)) e ∙ take-prefix done (words ∷ rest) in
      ap (λ ns. first + count_nodes ns) cut ∙ ap (λ n. first + n) (sym (count-rows done)) ∙ sym (length-append (file_of known) (rows_for done))

  rows-push : (done : List (List ℕ)) (words : List ℕ) → file_of known ++ rows_for (done ++ words ∷ []) ≡ (file_of known ++ rows_for done) ++ node_rows known at (node_coded words)
  rows-push done words =
      ap (λ rs. file_of known ++ rs) (flat_map-append (λ ws. node_rows known at (node_coded ws)) done (words ∷ []) ∙ ap (λ rs. rows_for done ++ rs) (append-nil (node_rows known at (node_coded words))))
      ∙ sym (append_assoc (file_of known) (rows_for done) (node_rows known at (node_coded words)))

  pub premises-at : (all : List Meaning) (n : ℕ) → ((k : ℕ) (J : Judgement) → k < n → g k ≡ Some J → conclusion_at all (at k) ≡ Some J) → (ks : List ℕ) (Js : List Judgement) → All (λ j. j < n) ks → meanings g ks ≡ Some Js → meanings (conclusion_at all) (map at ks) ≡ Some Js
  premises-at all n are [] Js early e = e
  premises-at all n are (k ∷ ks) Js early e =
      let m = meanings-cons g k ks Js e in
      ap₂ (both consed) (are k m.first (All-head (λ j. j < n) k ks early) m.first_is) (premises-at all n are ks m.rest (All-tail (λ j. j < n) k ks early) m.rest_is)
      ∙ ap Some (sym m.whole)

  node-there : (done rest : List (List ℕ)) (words : List ℕ) → nodes ≡ done ++ words ∷ rest → NodesSpelt done → NodeThere f g (length done) words → NodesSpelt (done ++ words ∷ [])
  node-there done rest words split h t =
      let node : Node = t.node in
      let J : Judgement = t.judgement in
      let u = t.use_is in
      let before : List Row = file_of known ++ rows_for done in
      let count : length h.all ≡ length before = omega (arith, right-length [] before h.all h.right) in
      let some : 0 < length h.all = omega (arith, count, length-append (file_of known) (rows_for done)) in
      let node_is = t.is in
      let rows_are : node_rows known at (node_coded words) ≡ node_row known at node ∷ [] = rw node_is refl in
      let right : RightNode h.all node.rule (map (place known) node.parts) (map at node.premises) J = record {
        xs = u.things;
        Js = u.judgements;
        parts_are = all-placed h.all some known f h.things node.parts u.things u.parts_are;
        premises_are = premises-at h.all (length done) h.conclusions node.premises u.judgements t.earlier u.premises_are;
        instance = u.instance;
      } in
      let all : List Meaning = h.all ++ Concludes J ∷ [] in
      let same : file_of known ++ rows_for (done ++ words ∷ []) ≡ before ++ node_row known at node ∷ [] = rows-push done words ∙ ap (λ rs. before ++ rs) rows_are in
      let here : conclusion_at all (at (length done)) ≡ Some J = ap (conclusion_at all) (next-place done rest words split ∙ sym count) ∙ conclusion-next h.all J in
      let P : ℕ → Type 0 = λ k. (K : Judgement) → g k ≡ Some K → conclusion_at all (at k) ≡ Some K in
      let old : (k : ℕ) → k < length done → P k = λ k lt K e. conclusion-kept h.all (Concludes J ∷ []) (at k) K (h.conclusions k K lt e) in
      record {
        all = all;
        right = subst (λ rs. RightRows [] rs all) (sym same) (rows_whole [] before (node_row known at node ∷ []) h.all all h.right (Concludes J, node-right h.all some node J (map (place known) node.parts) (map at node.premises) right, refl));
        fit = subst (All IsPlain) (sym same) (All-append IsPlain before (node_row known at node ∷ []) h.fit (All-cons IsPlain (node_row known at node) [] tt (All-nil IsPlain)));
        things = λ k x e. placed-kept h.all (Concludes J ∷ []) (chain_at known k) x (h.things k x e);
        conclusions = λ k K lt e. up-to P (length done) old (λ L is. here ∙ sym t.concludes ∙ is) k (omega (arith, length-append done (words ∷ []))) K e;
      }

  node-gone : (done : List (List ℕ)) (words : List ℕ) → NodesSpelt done → node_coded words ≡ None → g (length done) ≡ None → NodesSpelt (done ++ words ∷ [])
  node-gone done words h none gone =
      let before : List Row = file_of known ++ rows_for done in
      let same : file_of known ++ rows_for (done ++ words ∷ []) ≡ before = rows-push done words ∙ rw none (append-nil before) in
      let P : ℕ → Type 0 = λ k. (K : Judgement) → g k ≡ Some K → conclusion_at h.all (at k) ≡ Some K in
      record {
        all = h.all;
        right = subst (λ rs. RightRows [] rs h.all) (sym same) h.right;
        fit = subst (All IsPlain) (sym same) h.fit;
        things = h.things;
        conclusions = λ k K lt e. up-to P (length done) (λ j low L is. h.conclusions j L low is) (λ L is. cc) k (omega (arith, length-append done (words ∷ []))) K e;
      }

  one-node : (done rest : List (List ℕ)) (words : List ℕ) → nodes ≡ done ++ words ∷ rest → NodesSpelt done → NodeLive f g (length done) words → NodesSpelt (done ++ words ∷ [])
  one-node done rest words split h (inl t) = node-there done rest words split h t
  one-node done rest words split h (inr gone) = node-gone done words h gone.0 gone.1

  pub after-nodes : (done rest : List (List ℕ)) → nodes ≡ done ++ rest → NodesSpelt done → ((k : ℕ) (words : List ℕ) → slice_get rest k ≡ Some words → NodeLive f g (length done + k) words) → NodesSpelt nodes
  after-nodes done [] split h live = subst NodesSpelt (sym (split ∙ append-nil done)) h
  after-nodes done (words ∷ rest) split h live =
      let here : NodeLive f g (length done) words = subst (λ n. NodeLive f g n words) (omega arith) (live 0 words refl) in
      after-nodes (done ++ words ∷ []) rest (split ∙ sym (append_assoc done (words ∷ []) rest)) (one-node done rest words split h here) (λ k ws e.
      let n_is : length done + suc k ≡ length (done ++ words ∷ []) + k = omega (arith, length-append done (words ∷ [])) in
      subst (λ n. NodeLive f g n ws) n_is (live (suc k) ws e))
