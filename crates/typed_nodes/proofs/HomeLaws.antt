-- Types that stand at home, under the substitution from here.
use Rattle.std.proofs.Common.{◌≡◌, ◌∙◌, sym, ap, ap₂, Option, Some}
use Rattle.trees.specs.Trees.{Tree, Subst, apply, apply_under, push}
use Rattle.trees.specs.Judgements.{Context, Judgement, trees}
use Rattle.trees.specs.Language.{Ty, Tm, Sb}
use Rattle.substitution.proofs.BinderLaws.{apply_under-one, at-apply_lift}
use Rattle.rules.specs.Table.{at, pathp, pi, sig}
use Rattle.book.specs.Contents.{Contents}
use Rattle.book.specs.declared.kernel.NodeId.{NodeId}
use Rattle.typed_nodes.specs.declared.types.Family.{Family}
use Rattle.typed_nodes.specs.declared.types.Line.{Line}
use Rattle.typed_nodes.specs.Typed.{Says, IsTyped, IsFamily, IsLine}

-- a term of a type is one of an equal type
pub retyped : {o : Option Judgement} (H : Context) (t : Tree) {A T : Tree} → A ≡ T → o ≡ Some (Tm H t A) → o ≡ Some (Tm H t T)
retyped H t e says = says ∙ ap (λ T. Some (Tm H t T)) e

-- a term, and its type at home
pub typed_at : {b : Contents} (term ty sub : NodeId) (H : Context) (t A : Tree) (home : Context) (tree : Tree) (d : Subst) → A ≡ apply tree d → Says b term (Tm H t (apply tree d)) → Says b ty (Ty home tree) → Says b sub (Sb H d home) → IsTyped b (record { term = term; ty = record { ty = ty; sub = sub } }) H t A
typed_at term ty sub H t A home tree d is term_is type_is sub_is = record {
  term_is = retyped H t (sym is) term_is;
  type_at = record {
    home = home;
    tree = tree;
    sub = d;
    type_is = type_is;
    sub_is = sub_is;
    is = is;
  };
}

-- the types of functions and pairs of a family, and its codomain at a term

pub pi_at_home : {b : Contents} {family : Family} {H : Context} {A B : Tree} (is : IsFamily b family H A B) → pi trees A B ≡ apply (pi trees is.domain is.codomain) is.sub
pi_at_home is = ap₂ (pi trees) is.left (is.right ∙ sym (apply_under-one is.codomain is.sub))

pub sig_at_home : {b : Contents} {family : Family} {H : Context} {A B : Tree} (is : IsFamily b family H A B) → sig trees A B ≡ apply (sig trees is.domain is.codomain) is.sub
sig_at_home is = ap₂ (sig trees) is.left (is.right ∙ sym (apply_under-one is.codomain is.sub))

pub codomain_at : {b : Contents} {family : Family} {H : Context} {A B : Tree} (is : IsFamily b family H A B) (a : Tree) → at trees B a ≡ apply is.codomain (push is.sub a)
codomain_at is a = ap (λ T. at trees T a) is.right ∙ at-apply_lift is.codomain a is.sub

-- the type of the paths of a line, and the line at a formula

pub pathp_at_home : {b : Contents} {line : Line} {H : Context} {A u v : Tree} (is : IsLine b line H A u v) → pathp trees A u v ≡ apply (pathp trees is.tree is.start is.end) is.sub
pathp_at_home {b} {line} {H} {A} {u} {v} is =
    ap₂ (λ T s. pathp trees T s v) (is.is ∙ sym (apply_under-one is.tree is.sub)) is.left
    ∙ ap (pathp trees (apply_under is.tree 1 is.sub) (apply is.start is.sub)) is.right

pub line_at : {b : Contents} {line : Line} {H : Context} {A u v : Tree} (is : IsLine b line H A u v) (r : Tree) → at trees A r ≡ apply is.tree (push is.sub r)
line_at is r = ap (λ T. at trees T r) is.is ∙ at-apply_lift is.tree r is.sub
