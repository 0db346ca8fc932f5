-- Trees that are found the same are one.
use Rattle.std.proofs.Common.{◌≡◌, Bool, true, false, ◌&&◌, IsTrue, refl, sym, ap, ap₂, subst}
use Rattle.std.proofs.lemmas.Bool.{eqb-true, eq-eqb}
use denote.Enum.Bare.{same_true, true_same, sameb}
use Rattle.trees.specs.contracts.op.Op.{the_type}
use Rattle.trees.specs.Trees.{Tree, Trees, Var, Make, NoTrees, More}
use Rattle.direct.specs.Literal.{same_tree, same_trees}

both : (a b : Bool) → (a && b) ≡ true → (a ≡ true) × (b ≡ true)
both true b h = (refl, h)
both false b h = absurd (cc h)

and_true : (a b : Bool) → a ≡ true → b ≡ true → (a && b) ≡ true
and_true a b e f = subst (λ x. (x && b) ≡ true) (sym e) f

mutual
  same_tree-true : (t u : Tree) → same_tree t u ≡ true → t ≡ u
  same_tree-true (Var j) (Var k) h = ap Var (eqb-true j k h)
  same_tree-true (Make f xs) (Make g ys) h =
      let e = both (sameb the_type f g) (same_trees xs ys) h in ap₂ Make (same_true the_type tt f g e.0) (same_trees-true xs ys e.1)
  same_tree-true (Var j) (Make g ys) h = absurd (cc h)
  same_tree-true (Make f xs) (Var k) h = absurd (cc h)

  same_trees-true : (xs ys : Trees) → same_trees xs ys ≡ true → xs ≡ ys
  same_trees-true NoTrees NoTrees h = refl
  same_trees-true (More x xs) (More y ys) h =
      let e = both (same_tree x y) (same_trees xs ys) h in ap₂ More (same_tree-true x y e.0) (same_trees-true xs ys e.1)
  same_trees-true NoTrees (More y ys) h = absurd (cc h)
  same_trees-true (More x xs) NoTrees h = absurd (cc h)

mutual
  same_tree-refl : (t : Tree) → same_tree t t ≡ true
  same_tree-refl (Var j) = eq-eqb j j refl
  same_tree-refl (Make f xs) = and_true (sameb the_type f f) (same_trees xs xs) (true_same the_type f f refl) (same_trees-refl xs)

  same_trees-refl : (xs : Trees) → same_trees xs xs ≡ true
  same_trees-refl NoTrees = refl
  same_trees-refl (More x xs) = and_true (same_tree x x) (same_trees xs xs) (same_tree-refl x) (same_trees-refl xs)

pub same_means_one : (t u : Tree) → IsTrue (same_tree t u) → t ≡ u
same_means_one = same_tree-true

pub one_means_same : (t u : Tree) → t ≡ u → IsTrue (same_tree t u)
one_means_same t u e = subst (λ x. same_tree t x ≡ true) e (same_tree-refl t)
