-- The nodes of what definitions state.
use Rattle.std.proofs.Common.{◌≡◌, ◌<◌, ◌+◌, ℕ, zero, suc, List, [], ◌∷◌, ◌++◌, length, map, take, slice_get, slice_index_or, append_assoc, refl, sym, ◌∙◌, ap, arith, Option, Some, None, Vec, Global}
use Rattle.std.proofs.lemmas.List.{flat_map_more, take_more}
use Rattle.std.specs.List.{All, AllZip}
use Rattle.trees.specs.Judgements.{Judgement}
use Rattle.trees.specs.Language.{Ty, Tm}
use Rattle.trees.specs.Things.{both, consed, meanings}
use Rattle.translation.specs.Translated.{Stated, judgements_of}
use Rattle.derivation.specs.Derivations.{Provable}
use Rattle.book.specs.Contents.{Contents}
use Rattle.book.specs.Shown.{book_concludes}
use Rattle.book.specs.declared.kernel.NodeId.{NodeId}
use Rattle.book_writer.specs.Written.{concluded_by}
use Rattle.typing_steps.specs.declared.state.Root.{Root}
use Rattle.typing_steps.specs.Steps.{IsStated}
use Rattle.codes.specs.declared.code.CodeDef.{CodeDef}
use Rattle.bidirect.specs.Checked.{AreChecked}
use Rattle.bidirect.specs.declared.checker.Checked.TheVariants.{Direct}
use Rattle.session.specs.Found.{nodes_of}
use Rattle.session.specs.Loaded.{stated_by}

-- the nodes of what definitions state conclude their judgements
pub nodes_conclude : (b : Contents) (roots : List Root) (ds : List (Stated ℕ)) → AllZip (IsStated b) roots ds → concluded_by b (nodes_of roots) ≡ Some (judgements_of ds)
nodes_conclude b [] [] all = refl
nodes_conclude b [] (d ∷ ds) all = absurd all
nodes_conclude b (r ∷ rs) [] all = absurd all
nodes_conclude b (r ∷ rs) (d ∷ ds) all =
    let f = book_concludes b in
    let rest : Option (List Judgement) = concluded_by b (nodes_of rs) in
    let join : Option Judgement → Option (List Judgement) → Option (List Judgement) = both consed in
    let ty = Ty d.context d.type in
    let body = Tm d.context d.body d.type in
    ap (λ o. join o (join (f r.body.0) rest)) all.0.0 ∙ ap (λ o. join (Some ty) (join o rest)) all.0.1
    ∙ ap (λ o. join (Some ty) (join (Some body) o)) (nodes_conclude b rs ds all.1)

-- and so those of definitions that are checked
pub all_conclude : (b : Contents) (defs : List CodeDef) (roots : Vec Root Global) (nodes : List NodeId) → AreChecked b defs (Direct roots) → nodes ≡ nodes_of roots.items → concluded_by b nodes ≡ Some (judgements_of (stated_by defs))
all_conclude b defs roots nodes checked are = ap (concluded_by b) are ∙ nodes_conclude b roots.items (stated_by defs) checked.1

-- the nodes of one definition more
pub push_root : (new mid old : List NodeId) (roots : List Root) (i : ℕ) (d : Root) → i < length roots → old ≡ nodes_of (take i roots) → mid ≡ old ++ (slice_index_or roots i d).ty ∷ [] → new ≡ mid ++ (slice_index_or roots i d).body ∷ [] → new ≡ nodes_of (take (i + 1) roots)
push_root new mid old roots i d l before ty body =
    let r = slice_index_or roots i d in
    let nodes = nodes_of (take i roots) in
    body ∙ ap (λ ns. ns ++ r.body ∷ []) (ty ∙ ap (λ ns. ns ++ r.ty ∷ []) before)
    ∙ (append_assoc nodes (r.ty ∷ []) (r.body ∷ []) ∙ (flat_map_more (λ (x : Root). x.ty ∷ x.body ∷ []) [] (take i roots) r ∙ ap nodes_of (sym (take_more roots i d l))))

-- what some nodes conclude, one by one
pub record Concludes (says : ℕ → Option Judgement) (ks : List ℕ) (Js : List Judgement) : Type 0 where
  pub each : (i : ℕ) (k : ℕ) → slice_get ks i ≡ Some k → says k ≡ slice_get Js i

first_of : {A : Type 0} (f : ℕ → Option A) (k : ℕ) (ks : List ℕ) (x : A) (xs : List A) (o : Option A) (os : Option (List A)) → f k ≡ o → meanings f ks ≡ os → both consed o os ≡ Some (x ∷ xs) → (f k ≡ Some x) × (meanings f ks ≡ Some xs)
first_of f k ks x xs None os e m h = absurd cc
first_of f k ks x xs (Some y) None e m h = absurd cc
first_of f k ks x xs (Some y) (Some ys) e m h = (e ∙ cc, m ∙ cc)

none_left : {A : Type 0} (f : ℕ → Option A) (k : ℕ) (ks : List ℕ) (o : Option A) (os : Option (List A)) → both consed o os ≡ Some [] → ⊥
none_left f k ks None os h = cc
none_left f k ks (Some y) None h = cc
none_left f k ks (Some y) (Some ys) h = cc

each_of : (says : ℕ → Option Judgement) (ks : List ℕ) (Js : List Judgement) → meanings says ks ≡ Some Js → (i : ℕ) (k : ℕ) → slice_get ks i ≡ Some k → says k ≡ slice_get Js i
each_of says [] Js e i k h = absurd cc
each_of says (n ∷ ks) [] e i k h = absurd (none_left says n ks (says n) (meanings says ks) e)
each_of says (n ∷ ks) (J ∷ Js) e zero k h =
    let f = first_of says n ks J Js (says n) (meanings says ks) refl refl e in
    let same : n ≡ k = cc in
    ap says (sym same) ∙ f.0
each_of says (n ∷ ks) (J ∷ Js) e (suc i) k h =
    let f = first_of says n ks J Js (says n) (meanings says ks) refl refl e in
    each_of says ks Js f.1 i k h

ids_at : (nodes : List NodeId) (i : ℕ) (n : NodeId) → slice_get nodes i ≡ Some n → slice_get (map (λ (node : NodeId). node.0) nodes) i ≡ Some n.0
ids_at [] i n h = absurd cc
ids_at (m ∷ nodes) zero n h = let same : m ≡ n = cc in ap (λ (x : NodeId). Some x.0) same
ids_at (m ∷ nodes) (suc i) n h = ids_at nodes i n h

-- what the node at a place concludes
pub concludes_at : (b : Contents) (nodes : List NodeId) (Js : List Judgement) (i : ℕ) (n : NodeId) → concluded_by b nodes ≡ Some Js → slice_get nodes i ≡ Some n → book_concludes b n.0 ≡ slice_get Js i
concludes_at b nodes Js i n all there = each_of (book_concludes b) (map (λ (node : NodeId). node.0) nodes) Js all i n.0 (ids_at nodes i n there)

-- where all that nodes conclude is provable, so is each of it
pub all_proved : (says : ℕ → Option Judgement) (ks : List ℕ) (Js : List Judgement) → ((k : ℕ) (J : Judgement) → says k ≡ Some J → Provable J) → meanings says ks ≡ Some Js → All Provable Js
all_proved says [] [] law e i d l = absurd (omega arith)
all_proved says [] (J ∷ Js) law e i d l = absurd cc
all_proved says (n ∷ ks) [] law e i d l = absurd (omega arith)
all_proved says (n ∷ ks) (J ∷ Js) law e zero d l = law n J (first_of says n ks J Js (says n) (meanings says ks) refl refl e).0
all_proved says (n ∷ ks) (J ∷ Js) law e (suc i) d l = all_proved says ks Js law (first_of says n ks J Js (says n) (meanings says ks) refl refl e).1 i d (omega arith)
