-- Places and rows under definitions, binders and names.
use Rattle.std.proofs.Common.{◌≡◌, ℕ, List, [], ◌∷◌, ◌++◌, take, sym, subst}
use Rattle.trees.specs.declared.op.Op.{Op}
use Rattle.trees.specs.Trees.{Tree, Make, trees_of}
use Rattle.trees.specs.Things.{Meanings, Kept}
use Rattle.translation.specs.Scopes.{Scope}
use Rattle.translation.specs.Forms.{Means}
use Rattle.codes.specs.declared.code.Code.{Code}
use Rattle.codes.specs.declared.code.Binder.{Binder}
use Rattle.form_rows.specs.Meant.{Is, Are, AreTrees, nest}
use Rattle.form_rows.proofs.RowLaws.{trees_kept}
use Rattle.judgement_rows.specs.declared.places.Place.{Place}
use Rattle.judgement_rows.specs.declared.places.Under.{Under}
use Rattle.numbered_scope.specs.declared.numbered.Numbered.{Numbered}
use Rattle.judgement_rows.specs.declared.bodies.Body.{Body}
use Rattle.judgement_rows.specs.Places.{BoundIn, AllNamedIn}
use Rattle.judgement_rows.specs.Steps.{State, FitsSome, Spells, Row}
use Rattle.judgement_rows.specs.Under.{intervals}
use Rattle.judgement_rows.specs.Words.{IsUnder, Defines, code_tree, over_tree, under_trees}
use Rattle.judgement_rows.proofs.Moving.{Makes}
use Rattle.judgement_rows.proofs.UnderSteps.{under_none, under_more, fits_names, closed_under}
use Rattle.judgement_rows.proofs.Blocks.{folded_one}
use Rattle.judgement_rows.proofs.Arms.{with_rows, more_rows}

-- definitions

pub some_defined : {s t : State} {p : Place} {m : Means ℕ (Scope ℕ)} → FitsSome s p → Defines s t p m → FitsSome t p
some_defined {m = m} h d = ((m h.0).value, (d.moves h.0 h.1).value)

pub cut_to : {n m : ℕ} (xs : List (Numbered Body)) {ys : List (Numbered Body)} → n ≡ m → ys ≡ take n xs → ys ≡ take m xs
cut_to xs {ys} e h = subst (λ k. ys ≡ take k xs) e h

-- binders

pub under_start : (s : State) (p : Place) (u : Under) → u.place ≡ p → u.types.items ≡ [] → Spells s s p (IsUnder u) (under_trees [])
unfolding under_trees
under_start s p u e d = under_none s p u e d

pub under_next : {s t w x : State} {p : Place} {u v : Under} {ty : ℕ} (bs cs : List Binder) (b : Binder) → cs ≡ bs ++ b ∷ [] → Spells s t p (IsUnder u) (under_trees bs) → Spells t w u.place (Row ty) (code_tree b.ty)
    → Makes w x → BoundIn w.means x.means u v ty b.names → Spells s x p (IsUnder v) (under_trees cs)
unfolding under_trees code_tree
under_next {s} {t} {w} {x} {p} {u} {v} {ty} bs cs b e first second more bound =
    subst (λ ds. Spells s x p (IsUnder v) (under_trees ds)) (sym e) (under_more bs b first second more bound)

module _ {s t : State} {p : Place} {u : Under} {m : Means ℕ (List Tree × Scope ℕ)} where
  -- there is a scope under them
  pub some_within : FitsSome s p → Spells s t p (IsUnder u) m → FitsSome t u.place
  some_within h a = ((m h.0).value.1, (a.moves h.0 h.1).value.fits)

  pub types_within : {f : Meanings} → FitsSome s p → Spells s t p (IsUnder u) m → Kept t.means f → AreTrees f u.types.items
  types_within {f} h a kept = trees_kept t.means f u.types.items kept ((m h.0).value.0, (a.moves h.0 h.1).value.types)

pub over_made : {s t w : State} {f : Meanings} {p : Place} {u : Under} {row r : ℕ} (o : Op) (bs : List Binder) (c : Code) → Spells s t p (IsUnder u) (under_trees bs) → Spells t w u.place (Row row) (code_tree c)
    → Kept w.means f → ((ts : List Tree) (t : Tree) → Are w.means u.types.items ts → Is w.means row t → Is f r (nest o ts t)) → Spells s (with_rows w f) p (Row r) (over_tree o bs c)
unfolding over_tree under_trees code_tree
over_made {s} {t} {w} {f} {p} {u} {row} {r} o bs c first second kept close =
    closed_under (λ A b. Make o (trees_of (A ∷ b ∷ []))) bs first second (more_rows kept) (λ As b i j. subst (Is f r) (sym (folded_one o As b)) (close As b i j))

-- names

pub some_names : {s t : State} {p q : Place} {n : ℕ} → Makes s t → AllNamedIn s.means t.means p n q → FitsSome s p → FitsSome t q
some_names {s} {t} {p} {q} {n} more named h = (intervals n h.0, fits_names s t p q n h.0 more named h.1)
