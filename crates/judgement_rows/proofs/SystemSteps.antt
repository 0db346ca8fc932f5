-- Sides of each kind, one after another, and the systems that are made of their rows.
use Rattle.std.proofs.Common.{◌≡◌, ℕ, List, [], ◌∷◌, ◌++◌, map, Result, IfOk, sym, ap, ◌∙◌, subst}
use Rattle.trees.specs.Trees.{Tree}
use Rattle.trees.specs.Things.{Meanings, Kept}
use Rattle.translation.specs.Systems.{On}
use Rattle.translation.specs.Forms.{Means, system}
use Rattle.codes.specs.declared.code.Side.{Side}
use Rattle.codes.specs.declared.code.LineSide.{LineSide}
use Rattle.codes.specs.declared.code.PairSide.{PairSide}
use Rattle.codes.specs.Codes.{meaning, both, term_side, line_side, pair_side}
use Rattle.codes.proofs.Logs.{map_append}
use Rattle.form_rows.specs.Meant.{Is, Are}
use Rattle.form_rows.proofs.RowLaws.{kept_then, is_kept, are_kept, are_none, are_push}
use Rattle.judgement_rows.specs.declared.places.Place.{Place}
use Rattle.judgement_rows.specs.declared.places.Faced.{Faced}
use Rattle.judgement_rows.specs.declared.systems.SideRows.{SideRows}
use Rattle.judgement_rows.specs.declared.systems.PairRows.{PairRows}
use Rattle.judgement_rows.specs.declared.systems.System.{System}
use Rattle.judgement_rows.specs.declared.systems.PairSystem.{PairSystem}
use Rattle.judgement_rows.specs.Places.{HoldIn}
use Rattle.judgement_rows.specs.Steps.{State, FitsSome, Spells, Row}
use Rattle.judgement_rows.specs.Systems.{AreSides, ArePairs, SystemOf, LineSystemOf, PairSystemOf}
use Rattle.judgement_rows.specs.Words.{Rows, IsSystem, IsLineSystem, IsPairSystem, code_tree, line_tree, side_trees, line_side_trees, pair_side_trees}
use Rattle.judgement_rows.proofs.Moving.{Makes, given}
use Rattle.judgement_rows.proofs.FormSteps.{spells_two}
use Rattle.judgement_rows.proofs.SystemLaws.{each_values}
use Rattle.judgement_rows.proofs.SideSteps.{IsSides, Pairs, sides_none, sides_more, spells_as}
use Rattle.judgement_rows.proofs.Arms.{with_rows, more_rows}
use Rattle.judgement_rows.proofs.Answered.{if_ok, makes_same, spells_by}

pub sides_start : (s : State) (p : Place) {faces values : List ℕ} → faces ≡ [] → values ≡ [] → Spells s s p (IsSides faces (Rows values)) (side_trees [])
unfolding side_trees
sides_start s p i j = rw (i, j) (sides_none s p (Rows []) (are_none s.means))

pub line_sides_start : (s : State) (p : Place) {faces values : List ℕ} → faces ≡ [] → values ≡ [] → Spells s s p (IsSides faces (Rows values)) (line_side_trees [])
unfolding line_side_trees
line_sides_start s p i j = rw (i, j) (sides_none s p (Rows []) (are_none s.means))

pub pair_sides_start : (s : State) (p : Place) {faces ts es : List ℕ} → faces ≡ [] → ts ≡ [] → es ≡ [] → Spells s s p (IsSides faces (Pairs ts es)) (pair_side_trees [])
unfolding pair_side_trees
pair_sides_start s p i j k = rw (i, j, k) (sides_none s p (Pairs [] []) (record { types = are_none s.means; equivalences = are_none s.means }))

-- one more

module _ {s t x : State} {p : Place} {q : Faced} {faces : List ℕ} (more : Makes t x) where
  pub side_next : {y : State} {values more_faces more_values : List ℕ} {value : ℕ} (zs ys : List Side) (z : Side) → ys ≡ zs ++ z ∷ [] → HoldIn t.means x.means p z.equations.items q
      → more_faces ≡ faces ++ q.face ∷ [] → more_values ≡ values ++ value ∷ []
      → Spells s t p (IsSides faces (Rows values)) (side_trees zs) → Spells x y q.place (Row value) (code_tree z.body) → Spells s y p (IsSides more_faces (Rows more_values)) (side_trees ys)
  unfolding side_trees code_tree
  side_next {y} {values} {value = value} zs ys z same hold i j first second =
      rw (i, j) (subst (λ vs. Spells s y p (IsSides (faces ++ q.face ∷ []) (Rows (values ++ value ∷ []))) (system vs)) (sym (map_append term_side zs (z ∷ [])) ∙ ap (map term_side) (sym same))
      (sides_more (map term_side zs) z.equations.items first more hold second (λ ts t i j. are_push (are_kept (kept_then more.kept second.kept) i) j)))

  pub line_side_next : {y : State} {values more_faces more_values : List ℕ} {value : ℕ} (zs ys : List LineSide) (z : LineSide) → ys ≡ zs ++ z ∷ [] → HoldIn t.means x.means p z.equations.items q
      → more_faces ≡ faces ++ q.face ∷ [] → more_values ≡ values ++ value ∷ []
      → Spells s t p (IsSides faces (Rows values)) (line_side_trees zs) → Spells x y q.place (Row value) (line_tree z.body) → Spells s y p (IsSides more_faces (Rows more_values)) (line_side_trees ys)
  unfolding line_side_trees line_tree
  line_side_next {y} {values} {value = value} zs ys z same hold i j first second =
      rw (i, j) (subst (λ vs. Spells s y p (IsSides (faces ++ q.face ∷ []) (Rows (values ++ value ∷ []))) (system vs)) (sym (map_append line_side zs (z ∷ [])) ∙ ap (map line_side) (sym same))
      (sides_more (map line_side zs) z.equations.items first more hold second (λ ts t i j. are_push (are_kept (kept_then more.kept second.kept) i) j)))

  pub pair_side_next : {y v : State} {ts es more_faces more_types more_equivalences : List ℕ} {ty equivalence : ℕ} (zs ys : List PairSide) (z : PairSide) → ys ≡ zs ++ z ∷ [] → HoldIn t.means x.means p z.equations.items q
      → more_faces ≡ faces ++ q.face ∷ [] → more_types ≡ ts ++ ty ∷ [] → more_equivalences ≡ es ++ equivalence ∷ []
      → Spells s t p (IsSides faces (Pairs ts es)) (pair_side_trees zs) → Spells x v q.place (Row ty) (code_tree z.ty) → Spells v y q.place (Row equivalence) (code_tree z.equivalence)
      → Spells s y p (IsSides more_faces (Pairs more_types more_equivalences)) (pair_side_trees ys)
  unfolding pair_side_trees code_tree
  pair_side_next {y} {v} {ts} {es} {ty = ty} {equivalence = equivalence} zs ys z same hold f k l first second third =
      let all_kept : Kept t.means y.means = kept_then more.kept (kept_then second.kept third.kept) in
      let pair : Spells x y q.place (λ u (a : Tree × Tree). Is u.means ty a.0 × Is u.means equivalence a.1) (both (meaning z.ty) (meaning z.equivalence)) =
      spells_two (λ a b. (a, b)) second third (makes_same y) (λ a b i j. (is_kept third.kept i, j)) in
      rw (f, k, l) (subst (λ vs. Spells s y p (IsSides (faces ++ q.face ∷ []) (Pairs (ts ++ ty ∷ []) (es ++ equivalence ∷ []))) (system vs)) (sym (map_append pair_side zs (z ∷ [])) ∙ ap (map pair_side) (sym same))
      (sides_more (map pair_side zs) z.equations.items first more hold pair (λ ps a i j. record {
        types = subst (Are y.means (ts ++ ty ∷ [])) (sym (map_append (λ (b : Tree × Tree). b.0) ps (a ∷ []))) (are_push (are_kept all_kept i.types) j.0);
        equivalences = subst (Are y.means (es ++ equivalence ∷ [])) (sym (map_append (λ (b : Tree × Tree). b.1) ps (a ∷ []))) (are_push (are_kept all_kept i.equivalences) j.1);
      })))

-- what is known of the rows, and systems of them

module _ {s t : State} {p : Place} (r : SideRows) {m : Means ℕ (List (On Tree))} (first : Spells s t p (IsSides r.faces.items (Rows r.values.items)) m) where
  as_sides : (ss : List (On Tree)) → IsSides r.faces.items (Rows r.values.items) t ss → AreSides t.means r ss
  as_sides ss i = record { faces = i.faces; values = i.values }

  pub sides_known : FitsSome s p → (ss : List (On Tree)) × AreSides t.means r ss
  sides_known fits = let g = given fits first in (g.0, as_sides g.0 g.1)

  pub system_made : {E : Type 0} {f : Meanings} {n : Means ℕ (List (On Tree))} (a : Result System E) → m ≡ n → Kept t.means f
      → IfOk a (λ y. (ss : List (On Tree)) → AreSides t.means r ss → SystemOf f y ss) → IfOk a (λ y. Spells s (with_rows t f) p (IsSystem y) n)
  system_made {f = f} a same kept made =
      if_ok {P = λ y. (ss : List (On Tree)) → AreSides t.means r ss → SystemOf f y ss} a (λ y h. spells_by same (spells_as first (more_rows kept) (λ ss i. h ss (as_sides ss i)))) made

  pub line_system_made : {E : Type 0} {f : Meanings} {n : Means ℕ (List (On Tree))} (a : Result System E) → m ≡ n → Kept t.means f
      → IfOk a (λ y. (ss : List (On Tree)) → AreSides t.means r ss → LineSystemOf f y ss) → IfOk a (λ y. Spells s (with_rows t f) p (IsLineSystem y) n)
  line_system_made {f = f} a same kept made =
      if_ok {P = λ y. (ss : List (On Tree)) → AreSides t.means r ss → LineSystemOf f y ss} a (λ y h. spells_by same (spells_as first (more_rows kept) (λ ss i. h ss (as_sides ss i)))) made

module _ {s t : State} {p : Place} (r : PairRows) {m : Means ℕ (List (On (Tree × Tree)))} (first : Spells s t p (IsSides r.faces.items (Pairs r.types.items r.equivalences.items)) m) where
  as_pairs : (ss : List (On (Tree × Tree))) → IsSides r.faces.items (Pairs r.types.items r.equivalences.items) t ss → ArePairs t.means r ss
  as_pairs ss i = record {
    faces = i.faces;
    types = subst (Are t.means r.types.items) (sym (each_values (λ s. s.0) ss)) i.values.types;
    equivalences = subst (Are t.means r.equivalences.items) (sym (each_values (λ s. s.1) ss)) i.values.equivalences;
  }

  pub pairs_known : FitsSome s p → (ss : List (On (Tree × Tree))) × ArePairs t.means r ss
  pairs_known fits = let g = given fits first in (g.0, as_pairs g.0 g.1)

  pub pair_system_made : {E : Type 0} {f : Meanings} {n : Means ℕ (List (On (Tree × Tree)))} (a : Result PairSystem E) → m ≡ n → Kept t.means f
      → IfOk a (λ y. (ss : List (On (Tree × Tree))) → ArePairs t.means r ss → PairSystemOf f y ss) → IfOk a (λ y. Spells s (with_rows t f) p (IsPairSystem y) n)
  pair_system_made {f = f} a same kept made =
      if_ok {P = λ y. (ss : List (On (Tree × Tree))) → ArePairs t.means r ss → PairSystemOf f y ss} a (λ y h. spells_by same (spells_as first (more_rows kept) (λ ss i. h ss (as_pairs ss i)))) made
