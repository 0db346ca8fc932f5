-- The rows of sides, and the systems of them.
use Rattle.std.proofs.Common.{◌≡◌, ℕ, List, [], ◌∷◌, map, length, refl, sym, ap, ◌∙◌, subst}
use Rattle.std.proofs.lemmas.List.{length-map}
use Rattle.trees.specs.Trees.{Tree}
use Rattle.trees.specs.Things.{Meanings, Kept}
use Rattle.translation.specs.Systems.{On, each}
use Rattle.translation.specs.Terms.{lifted}
use Rattle.translation.specs.Forms.{types, equivalences}
use Rattle.form_rows.specs.Meant.{Is, Are, AreTrees}
use Rattle.form_rows.specs.Systems.{cover_of, body_of}
use Rattle.form_rows.proofs.RowLaws.{kept_then, is_kept, are_kept, are_length}
use Rattle.judgement_rows.specs.declared.systems.System.{System}
use Rattle.judgement_rows.specs.declared.systems.PairSystem.{PairSystem}
use Rattle.judgement_rows.specs.declared.systems.SideRows.{SideRows}
use Rattle.judgement_rows.specs.declared.systems.PairRows.{PairRows}
use Rattle.judgement_rows.specs.Systems.{AreSides, ArePairs, SystemOf, LineSystemOf, PairSystemOf}
use Rattle.judgement_rows.proofs.SideLaws.{cover_is, body_is, line_body_is}

abbrev pub faces_of : {A : Type 0} → List (On A) → List Tree
faces_of {A} ss = map (λ (s : On A). s.face) ss

abbrev pub values_of : List (On Tree) → List Tree
values_of ss = map (λ (s : On Tree). s.value) ss

-- of each part of a value

each_faces : (f : Tree × Tree → Tree) (ss : List (On (Tree × Tree))) → faces_of (map (each f) ss) ≡ faces_of ss
each_faces f [] = refl
each_faces f (s ∷ ss) = ap (λ xs. s.face ∷ xs) (each_faces f ss)

pub each_values : (f : Tree × Tree → Tree) (ss : List (On (Tree × Tree))) → values_of (map (each f) ss) ≡ map f (map (λ (x : On (Tree × Tree)). x.value) ss)
each_values f [] = refl
each_values f (s ∷ ss) = ap (λ xs. f s.value ∷ xs) (each_values f ss)

-- rows of faces and values are as many

as_many : {f g : Meanings} {ps vs : List ℕ} (ss : List (On Tree)) → Are f ps (faces_of ss) → Are g vs (values_of ss) → length ps ≡ length vs
as_many ss i j = sym (are_length i) ∙ length-map ss (λ (x : On Tree). x.face) ∙ sym (length-map ss (λ (x : On Tree). x.value)) ∙ are_length j

module _ {f : Meanings} {r : SideRows} (known : (ss : List (On Tree)) × AreSides f r ss) where
  pub face_trees : AreTrees f r.faces.items
  face_trees = (faces_of known.0, known.1.faces)

  pub value_trees : AreTrees f r.values.items
  value_trees = (values_of known.0, known.1.values)

  pub as_many_values : length r.faces.items ≡ length r.values.items
  as_many_values = as_many known.0 known.1.faces known.1.values

  -- the same of faces that were weakened
  module _ {g : Meanings} {inside : List ℕ} (lifts : (ts : List Tree) → Are f r.faces.items ts → Are g inside (map lifted ts)) where
    pub lifted_trees : AreTrees g inside
    lifted_trees = (map lifted (faces_of known.0), lifts (faces_of known.0) known.1.faces)

    pub lifted_as_many : length inside ≡ length r.values.items
    lifted_as_many = sym (are_length (lifts (faces_of known.0) known.1.faces)) ∙ length-map (faces_of known.0) lifted ∙ are_length known.1.faces ∙ as_many_values

module _ {f : Meanings} {r : PairRows} (known : (ss : List (On (Tree × Tree))) × ArePairs f r ss) where
  faces_are : (h : Tree × Tree → Tree) → Are f r.faces.items (faces_of (map (each h) known.0))
  faces_are h = subst (Are f r.faces.items) (sym (each_faces h known.0)) known.1.faces

  pub pair_face_trees : AreTrees f r.faces.items
  pair_face_trees = (faces_of known.0, known.1.faces)

  pub type_trees : AreTrees f r.types.items
  type_trees = (values_of (types known.0), known.1.types)

  pub equivalence_trees : AreTrees f r.equivalences.items
  equivalence_trees = (values_of (equivalences known.0), known.1.equivalences)

  pub as_many_types : length r.faces.items ≡ length r.types.items
  as_many_types = as_many (types known.0) (faces_are (λ s. s.0)) known.1.types

  pub as_many_equivalences : length r.faces.items ≡ length r.equivalences.items
  as_many_equivalences = as_many (equivalences known.0) (faces_are (λ s. s.1)) known.1.equivalences

-- systems

pub system_is : {e f g : Meanings} {r : SideRows} {y : System} → ((ps ts : List Tree) → Are e r.faces.items ps → Are e r.values.items ts → Is f y.body (body_of ps ts))
    → Kept e f → Kept f g → ((ps : List Tree) → Are f r.faces.items ps → Is g y.cover (cover_of ps)) → (ss : List (On Tree)) → AreSides e r ss → SystemOf g y ss
system_is {g = g} {y = y} bodies k l covers ss i = record {
  cover = subst (Is g y.cover) (cover_is ss) (covers (faces_of ss) (are_kept k i.faces));
  body = subst (Is g y.body) (body_is ss) (is_kept l (bodies (faces_of ss) (values_of ss) i.faces i.values));
}

pub line_system_is : {d e f g : Meanings} {r : SideRows} {inside : List ℕ} {y : System} → Kept d e → ((ts : List Tree) → Are d r.faces.items ts → Are e inside (map lifted ts))
    → Kept e f → ((ps ts : List Tree) → Are e inside ps → Are e r.values.items ts → Is f y.body (body_of ps ts))
    → Kept f g → ((ps : List Tree) → Are f r.faces.items ps → Is g y.cover (cover_of ps)) → (ss : List (On Tree)) → AreSides d r ss → LineSystemOf g y ss
line_system_is {g = g} {y = y} j lifts k bodies l covers ss i = record {
  cover = subst (Is g y.cover) (cover_is ss) (covers (faces_of ss) (are_kept (kept_then j k) i.faces));
  body = subst (Is g y.body) (line_body_is ss) (is_kept l (bodies (map lifted (faces_of ss)) (values_of ss) (lifts (faces_of ss) i.faces) (are_kept j i.values)));
}

pub pair_system_is : {d e f g : Meanings} {r : PairRows} {y : PairSystem} → Kept d e → ((ps us : List Tree) → Are d r.faces.items ps → Are d r.types.items us → Is e y.types (body_of ps us))
    → Kept e f → ((ps us : List Tree) → Are e r.faces.items ps → Are e r.equivalences.items us → Is f y.equivalences (body_of ps us))
    → Kept f g → ((ps : List Tree) → Are f r.faces.items ps → Is g y.cover (cover_of ps)) → (ss : List (On (Tree × Tree))) → ArePairs d r ss → PairSystemOf g y ss
pair_system_is {d = d} {g = g} {r = r} {y = y} j types_made k equivalences_made l covers ss i =
    let at : (h : Tree × Tree → Tree) → Are d r.faces.items (faces_of (map (each h) ss)) = λ h. subst (Are d r.faces.items) (sym (each_faces h ss)) i.faces in
    record {
      cover = subst (Is g y.cover) (cover_is ss) (covers (faces_of ss) (are_kept (kept_then j k) i.faces));
      types = subst (Is g y.types) (body_is (types ss)) (is_kept (kept_then k l) (types_made (faces_of (types ss)) (values_of (types ss)) (at (λ s. s.0)) i.types));
      equivalences = subst (Is g y.equivalences) (body_is (equivalences ss))
          (is_kept l (equivalences_made (faces_of (equivalences ss)) (values_of (equivalences ss)) (are_kept j (at (λ s. s.1))) (are_kept j i.equivalences)));
    }
