-- Stations as a book grows, and what the steps between them make.
use Rattle.std.proofs.Common.{◌≡◌, ◌<◌, ◌⊎◌, inl, inr, ℕ, zero, suc, [], ◌∷◌, Option, Some, None, refl, sym, ◌∙◌, ap₂, subst, arith}
use Rattle.std.specs.Prelude.{option_and_then}
use Rattle.std.proofs.lemmas.Bool.{cases_order}
use Rattle.trees.specs.declared.op.Op.{Op}
use Rattle.trees.specs.Operators.{kids_of}
use Rattle.trees.specs.Trees.{Tree, Make, More, NoTrees}
use Rattle.trees.specs.Things.{ATree, AContext, Meanings, Kept, meanings, made, both, consed}
use Rattle.rows.proofs.MeaningLaws.{over_kids-there}
use Rattle.trails.specs.Kids.{HasKid, kid}
use Rattle.trails.specs.Openings.{Finds}
use Rattle.trails.specs.Stations.{Station}
use Rattle.trails.specs.Trails.{OneIs, IsFirst, behind, HasBehind}
use Rattle.trails.specs.declared.station.StationRows.{StationRows}
use Rattle.trails.specs.Rows.{Stands, RowOf, FindsFirst}

pub stands-kept : (f g : Meanings) → Kept f g → (rows : StationRows) (s : Station) → Stands f rows s → Stands g rows s
stands-kept f g kept rows s is = record {
  ctx = kept.keeps rows.ctx (AContext s.ctx) is.ctx;
  left = kept.keeps rows.left (ATree s.left) is.left;
  right = kept.keeps rows.right (ATree s.right) is.right;
  is = is.is;
}

pub row_of-kept : (f g : Meanings) → Kept f g → (row : ℕ) (P : Tree → Type 0) → RowOf f row P → RowOf g row P
row_of-kept f g kept row P r = record { tree = r.tree; holds = r.holds; is = kept.keeps row (ATree r.tree) r.is }

-- operators over one and two trees

pub made-two : (f : Meanings) (by : Op) (j k : ℕ) (t u : Tree) → kids_of by ≡ 2 → f j ≡ Some (ATree t) → f k ≡ Some (ATree u) → option_and_then (made by) (meanings f (j ∷ k ∷ [])) ≡ Some (ATree (Make by (More t (More u NoTrees))))
made-two f by j k t u two is also =
    ap₂ (λ o p. option_and_then (made by) (both consed o (both consed p (Some [])))) is also ∙ over_kids-there by (t ∷ u ∷ []) (sym two)

pub made-four : (f : Meanings) (by : Op) (h j k l : ℕ) (p q t u : Tree) → kids_of by ≡ 4 → f h ≡ Some (ATree p) → f j ≡ Some (ATree q) → f k ≡ Some (ATree t) → f l ≡ Some (ATree u) → option_and_then (made by) (meanings f (h ∷ j ∷ k ∷ l ∷ [])) ≡ Some (ATree (Make by (More p (More q (More t (More u NoTrees))))))
made-four f by h j k l p q t u four hp jq kt lu =
    ap₂ (λ o p. option_and_then (made by) (both consed o (both consed p (both consed (f k) (both consed (f l) (Some [])))))) hp jq
    ∙ ap₂ (λ o r. option_and_then (made by) (both consed (Some (ATree p)) (both consed (Some (ATree q)) (both consed o (both consed r (Some [])))))) kt lu
    ∙ over_kids-there by (p ∷ q ∷ t ∷ u ∷ []) (sym four)

-- the first kid of one of two trees

pub first-left : (g : Meanings) (row : ℕ) (op : Op) (s : Station) → HasKid op 0 s.left → g row ≡ Some (ATree (kid 0 s.left)) → RowOf g row (IsFirst op s)
first-left g row op s has is = record { tree = kid 0 s.left; holds = record { one = inl has; chosen = inl (has, refl) }; is = is }

pub first-right : (g : Meanings) (found : Option ℕ) (op : Op) (s : Station) → (HasKid op 0 s.left → ⊥) → Finds g found (HasKid op 0 s.right) (kid 0 s.right) → FindsFirst g found op s
first-right g None op s never finds = λ one. from one
  where
    from : OneIs op s → ⊥
    from (inl has) = never has
    from (inr has) = finds has
first-right g (Some row) op s never finds =
    record { tree = kid 0 s.right; holds = record { one = inr finds.0; chosen = inr (never, refl) }; is = finds.1 }

-- kids at one place, one in the other

pub behind-below : (op : Op) (k n i : ℕ) (t : Tree) → i < n → HasBehind op k n t → HasKid op k (behind k i t)
behind-below op k zero i t l has = absurd (omega arith)
behind-below op k (suc n) i t l has = from (cases_order i n) (λ lt. behind-below op k n i t lt has.0)
  where
    from : (i ≡ n) ⊎ ((i < n) ⊎ (n < i)) → (i < n → HasKid op k (behind k i t)) → HasKid op k (behind k i t)
    from (inl e) before = subst (λ j. HasKid op k (behind k j t)) (sym e) has.1
    from (inr (inl lt)) before = before lt
    from (inr (inr gt)) before = absurd (omega arith)
