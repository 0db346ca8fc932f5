-- The file of a book derives what the nodes conclude.
use Rattle.std.proofs.Common.{◌≡◌, ℕ, ◌^◌, ◌<◌, ◌≤◌, inl, cond, List, [], ◌∷◌, ◌++◌, length, take, map, refl, sym, ◌∙◌, ap, ap₂, subst, arith, Option, Some, None, length-append, append_assoc, lt-ltb}
use Rattle.std.specs.Prelude.{slice_get, option_and_then}
use Rattle.std.specs.Option.{option_to_list}
use Rattle.std.specs.List.{All, flat_map}
use Rattle.std.proofs.lemmas.Option.{slice_get_within}
use Rattle.std.proofs.lemmas.List.{append-nil}
use Rattle.std.proofs.lemmas.List.Elements.{All-nil, All-cons, All-head, All-tail, All-append, All-weaker}
use Rattle.trees.specs.Trees.{Subst, greatest_shift}
use Rattle.trees.specs.Judgements.{Judgement}
use Rattle.trees.specs.Things.{Thing, ATree, ASubst, AContext, Meanings, Kept, both, consed, meanings}
use Rattle.trees.proofs.Meanings.{meanings-cons}
use Rattle.rows.proofs.OptionLaws.{one-some}
use Rattle.rows.proofs.TableLaws.{slice_get-take, length-built}
use Rattle.rules.specs.Shifts.{ShiftFits}
use Rattle.deriv_file.specs.declared.row.Row.{Row}
use Rattle.deriv_file.specs.declared.row.Row.TheVariants as row
use Rattle.deriv_file.specs.Spelling.{spelled, newest}
use Rattle.deriv_file.specs.Lines.{lines, SpellRows}
use Rattle.derivation.specs.Meanings.{Meaning, Nothing, conclusion_at}
use Rattle.derivation.specs.Right.{RightRows, Derives, root_of, roots_of}
use Rattle.derivation.specs.Derivations.{Derivable}
use Rattle.derivation.proofs.PrefixLaws.{rows_whole}
use Rattle.derivation.proofs.ExistLaws.{derives_derivable}
use Rattle.interned.specs.Coded.{AreCoded, thing_of, things_coded}
use Rattle.interned.proofs.CodingLaws.{thing_coded-kept}
use Rattle.interned.proofs.CodedLaws.{row_there}
use Rattle.book.specs.Contents.{Contents}
use Rattle.book.specs.Nodes.{node_coded, node_at, judgement_of, concluded}
use Rattle.book.specs.Right.{AreRight}
use Rattle.book.specs.Shown.{book_means, book_concludes}
use Rattle.book_writer.specs.Chains.{IsPlain, IsSpellable, Spelt}
use Rattle.book_writer.specs.Spelling.{file_of, node_place, spelt_row, spelt_rows, spelt_nodes, spelt_book, spelt_file}
use Rattle.book_writer.specs.Fits.{FileFits}
use Rattle.book_writer.proofs.FileLaws.{file-derives, file-spelt}
use Rattle.book_writer.proofs.RowsLaws.{below, IsLive, rows-spelt, flat_map-append, right-length}
use Rattle.book_writer.proofs.NodesLaws.{NodeLive, NodesSpelt, after-nodes, premises-at, conclusion-kept, root-right}

-- roots

abbrev pub root_rows : List ℕ → List Row
root_rows ks = map (λ k. row.Root k) ks

pub record RootsRight (all : List Meaning) (ks : List ℕ) (Js : List Judgement) : Type 0 where
  pub more : List Meaning
  pub right : RightRows all (root_rows ks) (all ++ more)
  pub roots : meanings (conclusion_at (all ++ more)) ks ≡ Some Js

meanings-later : (all more : List Meaning) (ks : List ℕ) (Js : List Judgement) → meanings (conclusion_at all) ks ≡ Some Js → meanings (conclusion_at (all ++ more)) ks ≡ Some Js
meanings-later all more [] Js e = e
meanings-later all more (k ∷ ks) Js e =
    let m = meanings-cons (conclusion_at all) k ks Js e in
    ap₂ (both consed) (conclusion-kept all more k m.first m.first_is) (meanings-later all more ks m.rest m.rest_is) ∙ ap Some (sym m.whole)

pub roots-right : (all : List Meaning) → 0 < length all → (ks : List ℕ) (Js : List Judgement) → meanings (conclusion_at all) ks ≡ Some Js → RootsRight all ks Js
roots-right all some [] Js e = record {
  more = [];
  right = append-nil all;
  roots = e;
}
roots-right all some (k ∷ ks) Js e =
    let m = meanings-cons (conclusion_at all) k ks Js e in
    let next : List Meaning = all ++ Nothing ∷ [] in
    let r = roots-right next (omega (arith, length-append all (Nothing ∷ []))) ks m.rest (meanings-later all (Nothing ∷ []) ks m.rest m.rest_is) in
    let same : all ++ (Nothing ∷ r.more) ≡ next ++ r.more = sym (append_assoc all (Nothing ∷ []) r.more) in
    record {
      more = Nothing ∷ r.more;
      right = (Nothing, root-right all some k m.first m.first_is, subst (RightRows next (root_rows ks)) (sym same) r.right);
      roots = meanings-later all (Nothing ∷ r.more) (k ∷ ks) Js e;
    }

root-list : (all : List Meaning) (ks : List ℕ) (Js : List Judgement) → meanings (conclusion_at all) ks ≡ Some Js → roots_of all (root_rows ks) ≡ Js
root-list all [] Js e = cc
root-list all (k ∷ ks) Js e =
    let m = meanings-cons (conclusion_at all) k ks Js e in
    ap₂ (λ o Ks. option_to_list o ++ Ks) m.first_is (root-list all ks m.rest m.rest_is) ∙ sym m.whole

plain-root : (all : List Meaning) (r : Row) → IsPlain r → root_of all r ≡ []
plain-root all (row.Root k) plain = absurd plain
plain-root all _ plain = refl

plain-fit : (r : Row) → IsPlain r → IsSpellable r
plain-fit (row.Root k) plain = tt
plain-fit _ plain = plain

no-roots : (all : List Meaning) (rows : List Row) → All IsPlain rows → roots_of all rows ≡ []
no-roots all [] plain = refl
no-roots all (r ∷ rows) plain = ap₂ (λ Js Ks. Js ++ Ks) (plain-root all r (All-head IsPlain r rows plain)) (no-roots all rows (All-tail IsPlain r rows plain))

root-fit : (ks : List ℕ) → All IsSpellable (root_rows ks)
root-fit [] = All-nil IsSpellable
root-fit (k ∷ ks) = All-cons IsSpellable (row.Root k) (root_rows ks) tt (root-fit ks)

-- plain rows that are right, with these roots after them, are right and have these roots
pub record Rooted (rows : List Row) (ks : List ℕ) (Js : List Judgement) : Type 0 where
  pub all : List Meaning
  pub right : RightRows [] (rows ++ root_rows ks) all
  pub fit : All IsSpellable (rows ++ root_rows ks)
  pub roots : roots_of all (rows ++ root_rows ks) ≡ Js

pub rooted : (rows : List Row) (all : List Meaning) → RightRows [] rows all → All IsPlain rows → 0 < length rows → (ks : List ℕ) (Js : List Judgement) → meanings (conclusion_at all) ks ≡ Some Js → Rooted rows ks Js
rooted rows all right plain some ks Js e =
    let count : length all ≡ length rows = omega (arith, right-length [] rows all right) in
    let r = roots-right all (omega (arith, count)) ks Js e in
    let end : List Meaning = all ++ r.more in
    record {
      all = end;
      right = rows_whole [] rows (root_rows ks) all end right r.right;
      fit = All-append IsSpellable rows (root_rows ks) (All-weaker IsPlain IsSpellable plain-fit rows plain) (root-fit ks);
      roots = flat_map-append (root_of end) rows (root_rows ks) ∙ ap₂ (λ Ks Ls. Ks ++ Ls) (no-roots end rows plain) (root-list end ks Js r.roots);
    }

pub rooted-derives : (rows : List Row) (ks : List ℕ) (Js : List Judgement) → Rooted rows ks Js → length (rows ++ root_rows ks) ≤ 2 ^ 64 → Derives (flat_map spelled (rows ++ root_rows ks)) (length (rows ++ root_rows ks)) Js
rooted-derives rows ks Js r few =
    subst (λ Ks. Derives (flat_map spelled (rows ++ root_rows ks)) (length (rows ++ root_rows ks)) Ks) r.roots (file-derives (rows ++ root_rows ks) r.all r.right r.fit few)

pub rooted-spelt : (rows : List Row) (ks : List ℕ) (Js : List Judgement) → Rooted rows ks Js → length (rows ++ root_rows ks) ≤ 2 ^ 64 → SpellRows newest 0 (lines (flat_map spelled (rows ++ root_rows ks))) (rows ++ root_rows ks)
rooted-spelt rows ks Js r few = file-spelt (rows ++ root_rows ks) r.all r.right r.fit few

-- the rows and the nodes of a book, each live or left out
module _ (f : Meanings) (g : ℕ → Option Judgement) (rows nodes : List (List ℕ)) (rows_live : (k : ℕ) (words : List ℕ) → slice_get rows k ≡ Some words → IsLive f k words) (nodes_live : (k : ℕ) (words : List ℕ) → slice_get nodes k ≡ Some words → NodeLive f g k words) (rows_within : (k : ℕ) (x : Thing) → f k ≡ Some x → k < length rows) (nodes_within : (k : ℕ) (J : Judgement) → g k ≡ Some J → k < length nodes) where
  abbrev pub known : List Spelt
  known = spelt_rows rows

  nodes-spelt : NodesSpelt f g known nodes nodes
  nodes-spelt =
      let r = rows-spelt f rows rows_live in
      let same : file_of known ++ [] ≡ file_of known = append-nil (file_of known) in
      after-nodes f g known nodes [] nodes refl
      (record {
        all = r.all;
        right = subst (λ rs. RightRows [] rs r.all) (sym same) r.right;
        fit = subst (All IsPlain) (sym same) r.fit;
        things = λ k x e. r.placed k x (omega (arith, rows_within k x e, length-built spelt_row rows)) e;
        conclusions = λ k J lt e. absurd (omega arith);
      })
      (λ k words e. subst (λ n. NodeLive f g n words) (omega arith) (nodes_live k words e))

  below-all : (ks : List ℕ) (Js : List Judgement) → meanings g ks ≡ Some Js → All (λ k. k < length nodes) ks
  below-all [] Js e = All-nil (λ k. k < length nodes)
  below-all (k ∷ ks) Js e =
      let m = meanings-cons g k ks Js e in
      All-cons (λ k. k < length nodes) k ks (nodes_within k m.first m.first_is) (below-all ks m.rest m.rest_is)

  map-map : (at : ℕ → ℕ) (ks : List ℕ) → map (λ k. row.Root (at k)) ks ≡ root_rows (map at ks)
  map-map at [] = refl
  map-map at (k ∷ ks) = ap (λ rs. row.Root (at k) ∷ rs) (map-map at ks)

  pub file-right : (ks : List ℕ) (Js : List Judgement) → meanings g ks ≡ Some Js → length (spelt_file rows nodes ks) ≤ 2 ^ 64 → Derives (flat_map spelled (spelt_file rows nodes ks)) (length (spelt_file rows nodes ks)) Js
  file-right ks Js e few =
      let n = nodes-spelt in
      let at : ℕ → ℕ = node_place nodes (length (file_of known)) in
      let same : spelt_file rows nodes ks ≡ spelt_book rows nodes ++ root_rows (map at ks) = ap (λ rs. spelt_book rows nodes ++ rs) (map-map at ks) in
      subst (λ rs. Derives (flat_map spelled rs) (length rs) Js) (sym same)
      (rooted-derives (spelt_book rows nodes) (map at ks) Js
      (rooted (spelt_book rows nodes) n.all n.right n.fit (omega (arith, length-append (file_of known) (spelt_nodes known nodes))) (map at ks) Js
      (premises-at f g known nodes n.all (length nodes) n.conclusions ks Js (below-all ks Js e) e))
      (omega (arith, ap length same)))

-- all of a book

shift-fits : (x : Thing) → ((d : Subst) → x ≡ ASubst d → d.shift ≤ greatest_shift) → ShiftFits x
shift-fits (ATree t) each = tt
shift-fits (ASubst d) each = each d refl
shift-fits (AContext G) each = tt

row-live : (rows : List (List ℕ)) → AreCoded rows → ((k : ℕ) (d : Subst) → slice_get (things_coded rows) k ≡ Some (ASubst d) → d.shift ≤ greatest_shift) → (k : ℕ) (words : List ℕ) → slice_get rows k ≡ Some words → IsLive (slice_get (things_coded rows)) k words
row-live rows h shifts k words at =
    let xs : List Thing = things_coded rows in
    let r = row_there rows h k words at in
    inl (record {
      thing = r.thing;
      is = r.is;
      means = thing_coded-kept (slice_get (take k xs)) (below k (slice_get xs)) (kept xs) words r.thing r.before;
      fits = shift-fits r.thing (λ d e. shifts k d (r.is ∙ ap Some e));
    })
  where
    kept : (xs : List Thing) → Kept (slice_get (take k xs)) (below k (slice_get xs))
    kept xs = record { keeps = λ j x e. let t = slice_get-take k xs j x e in ap (λ b. cond b (slice_get xs j) None) (lt-ltb j k t.0) ∙ t.1 }

node-live : (f : Meanings) (nodes : List (List ℕ)) → AreRight f nodes → (k : ℕ) (words : List ℕ) → slice_get nodes k ≡ Some words → NodeLive f (concluded f nodes) k words
node-live f nodes h k words at =
    let r = h.each k words at in
    inl (record {
      node = r.node;
      is = r.is;
      judgement = r.judgement;
      concludes = ap (λ o. option_and_then (judgement_of f) (option_and_then node_coded o)) at ∙ ap (option_and_then (judgement_of f)) r.is ∙ r.concludes;
      use_is = r.use_is;
      earlier = r.earlier;
    })

pub nodes-derivable : (b : Contents) → AreCoded b.rows → AreRight (book_means b) b.nodes → FileFits b → (k : ℕ) (J : Judgement) → book_concludes b k ≡ Some J → Derivable J
nodes-derivable b coded right fits k J e =
    let f : Meanings = book_means b in
    let g : ℕ → Option Judgement = book_concludes b in
    let at : ℕ → ℕ = node_place b.nodes (length (file_of (spelt_rows b.rows))) in
    let few : length (spelt_file b.rows b.nodes (k ∷ [])) ≤ 2 ^ 64 = omega (arith, fits.few, length-append (spelt_book b.rows b.nodes) (row.Root (at k) ∷ [])) in
    let derives =
    file-right f g b.rows b.nodes (row-live b.rows coded fits.shifts) (node-live f b.nodes right)
    (λ j x is. omega (arith, slice_get_within (things_coded b.rows) j x is, length-built thing_of b.rows))
    (λ j K is. let o = one-some (judgement_of f) (node_at b.nodes j) K is in let w = one-some node_coded (slice_get b.nodes j) o.first o.first_is in slice_get_within b.nodes j w.first w.first_is)
    (k ∷ []) (J ∷ []) (rw e refl) few in
    All-head Derivable J [] (derives_derivable (flat_map spelled (spelt_file b.rows b.nodes (k ∷ []))) (length (spelt_file b.rows b.nodes (k ∷ []))) (J ∷ []) derives)
