-- Kids of trees that are opened.
use Rattle.std.proofs.Common.{◌≡◌, ℕ, Option, Some, None, IsSome, List, refl, sym, ◌∙◌, ap, subst}
use Rattle.std.specs.Prelude.{slice_get, unwrap_or}
use Rattle.trees.specs.declared.op.Op.{Op}
use Rattle.trees.specs.Trees.{Tree, Trees, Var, Make}
use Rattle.trees.specs.Things.{ATree, Meanings}
use Rattle.substitution.specs.Delayed.{kid_at}
use Rattle.trails.specs.Kids.{HasKid, kid}
use Rattle.trails.specs.Openings.{RowAt, IsOver, Finds}
use Rattle.trails.proofs.RowLaws.{row-is, no-row}

pub same-op : (op other : Op) (ts us : Trees) → Make op ts ≡ Make other us → op ≡ other
same-op op other ts us e = cc

pub same-kids : (op other : Op) (ts us : Trees) → Make op ts ≡ Make other us → ts ≡ us
same-kids op other ts us e = cc

pub variable-kid : (t : Tree) (i : ℕ) (op : Op) (k : ℕ) → t ≡ Var i → HasKid op k t → ⊥
variable-kid t i op k is has = let both : Var i ≡ Make op has.kids = sym is ∙ has.made in cc

pub other-kid : (f : Meanings) (op wanted : Op) (rows : List ℕ) (k : ℕ) (t : Tree) → (op ≡ wanted → ⊥) → IsOver f op rows t → HasKid wanted k t → ⊥
other-kid f op wanted rows k t differ over has = differ (same-op op wanted over.kids has.kids (sym over.made ∙ has.made))

pub kid-is : (op : Op) (k : ℕ) (ts : Trees) (t u : Tree) → t ≡ Make op ts → kid_at ts k ≡ Some u → kid k t ≡ u
kid-is op k ts t u made there = ap (kid k) made ∙ ap (λ o. unwrap_or o (Make op ts)) there

pub finds-kid : (f : Meanings) (op wanted : Op) (rows : List ℕ) (k : ℕ) (t : Tree) (found : Option ℕ) → op ≡ wanted → found ≡ slice_get rows k → IsOver f op rows t → Finds f found (HasKid wanted k t) (kid k t)
finds-kid f op wanted rows k t found same is over =
    from found (subst (λ o. RowAt f o (kid_at over.kids k)) (sym is) (over.are.each k))
  where
    from : (o : Option ℕ) → RowAt f o (kid_at over.kids k) → Finds f o (HasKid wanted k t) (kid k t)
    from (Some row) at =
        let r = row-is f row (kid_at over.kids k) at in
        let there = r.there in (
          record { kids = over.kids; made = over.made ∙ ap (λ o. Make o over.kids) same; there = rw there refl },
          r.is ∙ ap (λ u. Some (ATree u)) (sym (kid-is op k over.kids t r.tree over.made there)),
        )
    from None at = λ has.
        let kids = same-kids op wanted over.kids has.kids (sym over.made ∙ has.made) in
        let none = no-row f (kid_at over.kids k) at in
        let there = subst (λ ts. IsSome (kid_at ts k)) (sym kids) has.there in
        let wrong = subst (λ (o : Option Tree). IsSome o) none there in
        cc

-- a row that is found where something more holds
pub finds-in : (f : Meanings) (found : Option ℕ) (First Second : Type 0) (t : Tree) → First → Finds f found Second t → Finds f found (First × Second) t
finds-in f None First Second t first none = λ both. none both.1
finds-in f (Some row) First Second t first found = ((first, found.0), found.1)
