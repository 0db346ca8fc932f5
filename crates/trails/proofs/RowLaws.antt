-- What rows mean as a book grows.
use Rattle.std.proofs.Common.{◌≡◌, ℕ, Option, Some, None, refl, sym}
use Rattle.trees.specs.Trees.{Tree, Subst, then}
use Rattle.trees.specs.Things.{Thing, ATree, ASubst, Meanings, Kept, both, then_of}
use Rattle.rows.proofs.OptionLaws.{both-some}
use Rattle.trails.specs.Openings.{RowAt, IsSubstOr}

pub same-subst : (d e : Subst) → Some (ASubst d) ≡ Some (ASubst e) → d ≡ e
same-subst d e is = cc

pub subst_or-kept : (f g : Meanings) → Kept f g → (o : Option ℕ) (d : Subst) → IsSubstOr f o d → IsSubstOr g o d
subst_or-kept f g kept None d is = is
subst_or-kept f g kept (Some row) d is = kept.keeps row (ASubst d) is

pub row_at-kept : (f g : Meanings) → Kept f g → (o : Option ℕ) (p : Option Tree) → RowAt f o p → RowAt g o p
row_at-kept f g kept None None at = at
row_at-kept f g kept (Some row) (Some t) at = kept.keeps row (ATree t) at
row_at-kept f g kept None (Some t) at = at
row_at-kept f g kept (Some row) None at = at

-- a row at a place is that of the tree there
pub record RowIs (f : Meanings) (row : ℕ) (p : Option Tree) : Type 0 where
  pub tree : Tree
  pub there : p ≡ Some tree
  pub is : f row ≡ Some (ATree tree)

pub row-is : (f : Meanings) (row : ℕ) (p : Option Tree) → RowAt f (Some row) p → RowIs f row p
row-is f row (Some t) at = record { tree = t; there = refl; is = at }
row-is f row None at = absurd at

pub no-row : (f : Meanings) (p : Option Tree) → RowAt f None p → p ≡ None
no-row f None at = refl
no-row f (Some t) at = absurd at

-- the substitutions that one is made of
pub record ThenParts (f : Meanings) (first_row second_row : ℕ) (d : Subst) : Type 0 where
  pub first : Subst
  pub second : Subst
  pub first_is : f first_row ≡ Some (ASubst first)
  pub second_is : f second_row ≡ Some (ASubst second)
  pub whole : d ≡ then first second

pub then-parts : (f : Meanings) (j k : ℕ) (d : Subst) → both then_of (f j) (f k) ≡ Some (ASubst d) → ThenParts f j k d
then-parts f j k d e =
    let b = both-some then_of (f j) (f k) (ASubst d) e in
    from b.first b.second b.first_is b.second_is b.whole
  where
    from : (x y : Thing) → f j ≡ Some x → f k ≡ Some y → then_of x y ≡ Some (ASubst d) → ThenParts f j k d
    from (ASubst a) (ASubst b) is also whole = record { first = a; second = b; first_is = is; second_is = also; whole = sym (same-subst (then a b) d whole) }
    from x y is also whole = cc
