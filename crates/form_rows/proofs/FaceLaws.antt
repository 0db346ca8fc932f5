-- Faces, made from the first equation to the last.
use Rattle.std.proofs.Common.{◌≡◌, ◌<◌, ◌≤◌, ◌+◌, ℕ, List, [], ◌∷◌, ◌++◌, map, length, get_or, take, refl, sym, ap, subst}
use Rattle.trees.specs.Things.{Meanings, Kept}
use Rattle.trees.proofs.Meanings.{kept-same}
use Rattle.codes.specs.declared.formula.Equation.{Equation}
use Rattle.form_rows.specs.Meant.{Is, Are}
use Rattle.form_rows.specs.Formulas.{equation_tree}
use Rattle.form_rows.proofs.RowLaws.{kept_then, are_kept, are_none, are_push, take_next, take_whole}

-- the first equations
pub record Faced (f g : Meanings) (es : List Equation) (at : ℕ) (rows : List ℕ) : Type 0 where
  pub kept : Kept f g
  pub are : Are g rows (map equation_tree (take at es))

pub faced_none : (f : Meanings) (es : List Equation) → Faced f f es 0 []
faced_none f es = record { kept = kept-same f; are = are_none f }

map_push : (es : List Equation) (e : Equation) → map equation_tree (es ++ e ∷ []) ≡ map equation_tree es ++ equation_tree e ∷ []
map_push [] e = refl
map_push (d ∷ es) e = ap (λ ts. equation_tree d ∷ ts) (map_push es e)

pub faced_more : {f g h : Meanings} {es : List Equation} {at : ℕ} {rows more : List ℕ} (e : Equation) (r : ℕ) → more ≡ rows ++ r ∷ [] → at < length es → Faced f g es at rows → Kept g h
    → Is h r (equation_tree (get_or es at e)) → Faced f h es (at + 1) more
faced_more {f} {g} {h} {es} {at} {rows} {more} e r pushed lt j kept made = record {
  kept = kept_then j.kept kept;
  are = subst (λ rs. Are h rs (map equation_tree (take (at + 1) es))) (sym pushed)
      (subst (λ ds. Are h (rows ++ r ∷ []) (map equation_tree ds)) (sym (take_next es at e lt))
      (subst (Are h (rows ++ r ∷ [])) (sym (map_push (take at es) (get_or es at e))) (are_push (are_kept kept j.are) made)));
}

pub faced_all : {f g : Meanings} {es : List Equation} {at : ℕ} {rows : List ℕ} → Faced f g es at rows → length es ≤ at → Are g rows (map equation_tree es)
faced_all {f} {g} {es} {at} {rows} j le = subst (λ ds. Are g rows (map equation_tree ds)) (take_whole es at le) j.are
