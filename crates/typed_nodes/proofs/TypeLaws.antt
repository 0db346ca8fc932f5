-- Trees of types that stand at home, and rows that mean trees.
use Rattle.std.proofs.Common.{◌≡◌, ◌∙◌, refl, sym, ap, ap₂, Bool, true, false, Option, Some, IsSome, eqb}
use Rattle.std.proofs.lemmas.Bool.{eqb-true}
use Rattle.std.specs.Prelude.{◌↔◌, ◌&&◌, IsTrue}
use Rattle.trees.specs.Trees.{Tree, Subst, apply}
use Rattle.trees.specs.Judgements.{Context, Judgement}
use Rattle.trees.specs.Language.{Ty, Tm, Sb}
use Rattle.trees.specs.Things.{Thing, ATree, ASubst, both, instance_of}
use Rattle.rows.proofs.OptionLaws.{one-some}
use Rattle.book.specs.Contents.{Contents}
use Rattle.book.specs.Nodes.{judgement_of}
use Rattle.book.specs.Shown.{book_means, book_nodes, book_concludes}
use Rattle.book.specs.declared.kernel.NodeId.{NodeId}
use Rattle.recipes.specs.Made.{field_at}
use Rattle.recipe_runner.proofs.BuildLaws.{some-is}
use Rattle.typed_nodes.specs.declared.types.TypeAt.{TypeAt}
use Rattle.typed_nodes.specs.Typed.{Says, IsTypeAt, subject_of}

-- what concludes something is a node
pub is_node : (b : Contents) (node : NodeId) (J : Judgement) → Says b node J → IsSome (book_nodes b node.0)
is_node b node J says =
    let w = one-some (judgement_of (book_means b)) (book_nodes b node.0) J says in
    some-is (book_nodes b node.0) w.first w.first_is

-- the subject stands behind the context
pub subject_field : (J : Judgement) (t : Tree) → subject_of J ≡ Some t → field_at 1 J ≡ Some (ATree t)
subject_field (Ty G A) t e = ap (λ o. Some (ATree o)) (let same : A ≡ t = cc in same)
subject_field (Tm G a A) t e = ap (λ o. Some (ATree o)) (let same : a ≡ t = cc in same)
subject_field _ t e = absurd (cc e)

-- the tree of a type at home, of the rows of its parts
pub tree_here : (o p : Option Thing) (A t : Tree) (d : Subst) → o ≡ Some (ATree t) → p ≡ Some (ASubst d) → A ≡ apply t d → both instance_of o p ≡ Some (ATree A)
tree_here o p A t d at_tree at_sub is = ap₂ (both instance_of) at_tree at_sub ∙ ap (λ s. Some (ATree s)) (sym is)

-- a type by its nodes is of one tree

type-of : (G K : Context) (A B : Tree) → ◌≡◌ {A = Option Judgement} (Some (Ty G A)) (Some (Ty K B)) → A ≡ B
type-of G K A B e = cc

sub-of : (H G I K : Context) (d e : Subst) → ◌≡◌ {A = Option Judgement} (Some (Sb H d G)) (Some (Sb I e K)) → d ≡ e
sub-of H G I K d e same = cc

both-true : (a b : Bool) → (a && b) ≡ true → (a ≡ true) × (b ≡ true)
both-true true b h = (refl, h)
both-true false b h = absurd (cc h)

pub one_tree : (b : Contents) (left right : TypeAt) (H : Context) (A B : Tree) → (eqb left.ty.0 right.ty.0 && eqb left.sub.0 right.sub.0) ≡ true → IsTypeAt b left H A → IsTypeAt b right H B → A ≡ B
one_tree b left right H A B same x y =
    let (ty, sub) = both-true (eqb left.ty.0 right.ty.0) (eqb left.sub.0 right.sub.0) same in
    let ty_says = ap (book_concludes b) (eqb-true left.ty.0 right.ty.0 ty) in
    let sub_says = ap (book_concludes b) (eqb-true left.sub.0 right.sub.0 sub) in
    let trees_are = type-of x.home y.home x.tree y.tree (sym x.type_is ∙ ty_says ∙ y.type_is) in
    let subs_are = sub-of H x.home H y.home x.sub y.sub (sym x.sub_is ∙ sub_says ∙ y.sub_is) in
    x.is ∙ ap (λ t. apply t x.sub) trees_are ∙ ap (apply y.tree) subs_are ∙ sym y.is

-- rows that mean the same are of one tree

tree-of : (A B : Tree) → Some (ATree A) ≡ Some (ATree B) → A ≡ B
tree-of A B e = cc

pub same_trees : (same : Bool) (left right : Option Thing) (A B : Tree) → IsTrue same ↔ (left ≡ right) → left ≡ Some (ATree A) → right ≡ Some (ATree B) → IsTrue same ↔ (A ≡ B)
same_trees same left right A B is at_left at_right =
    (λ yes. tree-of A B (sym at_left ∙ is.0 yes ∙ at_right), λ e. is.1 (at_left ∙ ap (λ t. Some (ATree t)) e ∙ sym at_right))
