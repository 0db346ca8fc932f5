-- Definitions from the start.
use Rattle.std.proofs.Common.{◌≡◌, ◌-◌, ℕ, List, [], ◌++◌, map, Some, None, refl, sym, ap, ◌∙◌, subst}
use Rattle.trees.specs.Trees.{Tree, apply, shift_by}
use Rattle.trees.specs.Judgements.{Nil}
use Rattle.trees.specs.Things.{Meanings, ATree, AContext}
use Rattle.trees.specs.Claimed.{claimed}
use Rattle.translation.specs.Terms.{universe}
use Rattle.codes.specs.declared.code.Code.{Code}
use Rattle.codes.specs.declared.code.CodeDef.{CodeDef}
use Rattle.codes.specs.Codes.{definitions}
use Rattle.form_rows.specs.Meant.{Is}
use Rattle.rows.specs.Views.{IsTree}
use Rattle.form_rows.proofs.RowLaws.{tree_of_is}
use Rattle.numbered_scope.specs.declared.numbered.Numbered.{Numbered}
use Rattle.judgement_rows.specs.declared.bodies.Body.{Body}
use Rattle.numbered_scope.specs.Newest.{newest}
use Rattle.judgement_rows.specs.declared.places.Place.{Place}
use Rattle.judgement_rows.specs.After.{After, term_after}
use Rattle.judgement_rows.specs.Steps.{State, Fits, Row, Spells, Stands, StandsFor}
use Rattle.judgement_rows.specs.Words.{Defines, block_scope, code_tree}

module _ (s : State) (ctx : ℕ) (context : s.means ctx ≡ Some (AContext Nil)) (bodies : s.bodies ≡ []) where
  pub fits_start : Fits s (record { context = ctx; depth = 0 }) []
  fits_start = record { context = context; depth = refl; bodies = λ n. subst (λ bs. StandsFor s.means 0 (newest bs n) universe) (sym bodies) refl }

  pub all_spelt : (t : State) (ds : List CodeDef) → s.claims ≡ [] → Defines s t (record { context = ctx; depth = 0 }) (block_scope ds)
      → After t (record { context = ctx; depth = 0 }) ds
  unfolding block_scope
  all_spelt t ds none d =
      let h = d.moves [] fits_start in
      record {
        fits = h.value;
        claims = ap (map (claimed t.means)) (h.states.claims ∙ ap (λ cs. cs ++ h.states.more) none) ∙ h.states.say;
      }

-- and a code after them
pub spelt_after : (s t : State) (p : Place) (ds : List CodeDef) (code : Code) (row : ℕ) → After s p ds → Spells s t p (Row row) (code_tree code)
    → t.means row ≡ Some (ATree (term_after ds code))
unfolding code_tree
spelt_after s t p ds code row after spells = (spells.moves (definitions ds []).value after.fits).value.is

-- a definition that is used

pub found_row : {f g : Meanings} {r : ℕ} (depth n : ℕ) (bodies : List (Numbered Body)) (b : Body) (t : Tree) → newest bodies n ≡ Some b → StandsFor f depth (newest bodies n) t
    → ((u : Tree) → Is f b.row u → Is g r (apply u (shift_by (depth - b.depth)))) → Is g r t
found_row {f} {g} {r} depth n bodies b t e h made =
    let s : Stands f depth b t = subst (λ o. StandsFor f depth o t) e h in
    subst (Is g r) (sym s.weakened) (made s.tree s.row)

pub missing_row : {g : Meanings} {r : ℕ} (f : Meanings) (depth n : ℕ) (bodies : List (Numbered Body)) (t : Tree) → newest bodies n ≡ None → StandsFor f depth (newest bodies n) t → Is g r universe → Is g r t
missing_row {g} {r} f depth n bodies t e h made =
    let s : t ≡ universe = subst (λ o. StandsFor f depth o t) e h in
    subst (Is g r) (sym s) made

pub found_tree : (f : Meanings) (t : Tree) (depth n : ℕ) (bodies : List (Numbered Body)) (b : Body) → newest bodies n ≡ Some b → StandsFor f depth (newest bodies n) t → IsTree (f b.row)
found_tree f t depth n bodies b e h =
    let s : Stands f depth b t = subst (λ o. StandsFor f depth o t) e h in
    tree_of_is f b.row s.row
