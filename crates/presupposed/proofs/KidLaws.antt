-- The parts of terms.
use Rattle.std.proofs.Common.{◌≡◌, true, sym, subst}
use Rattle.trees.specs.Trees.{Tree, Make, Var, Subst, apply}
use Rattle.trees.specs.Judgements.{Context, WithVar, trees}
use Rattle.trees.specs.Language.{Ty, Tm}
use Rattle.rules.specs.Table.{at}
use Rattle.book.specs.Contents.{Contents}
use Rattle.book.specs.Shown.{Extends}
use Rattle.book.specs.declared.kernel.NodeId.{NodeId}
use Rattle.typed_nodes.specs.Typed.{Says}
use Rattle.literal_terms.specs.declared.forms.Paired.{Paired}
use Rattle.literal_terms.specs.declared.forms.TermForm.TheVariants as form
use Rattle.literal_terms.specs.Forms.{IsFormed, IsPaired, is_type}

-- a type is one under a substitution
pub type_stays : (t : Tree) (d : Subst) → is_type t ≡ true → is_type (apply t d) ≡ true
type_stays (Var k) d h = absurd (cc h)
type_stays (Make op kids) d h = h

-- the parts of a pair, with its domain
pub paired_whole : (b c : Contents) (grown : Extends b c) (pair : Paired) (codomain left right : NodeId) (G : Context) (t S : Tree) → IsFormed b (form.Pair codomain left right) G t S → ((A B : Tree) → Says b codomain (Ty (WithVar G A) B) → Says c pair.domain (Ty G A)) → pair.codomain ≡ codomain → pair.left ≡ left → pair.right ≡ right → IsPaired c pair G t S
paired_whole b c grown pair codomain left right G t S is domain e f g =
    let (A, B, u, v, tree, type, first, second, third) = is in (
      A,
      B,
      u,
      v,
      tree,
      type,
      domain A B first,
      subst (λ n. Says c n (Ty (WithVar G A) B)) (sym e) (grown.conclusions codomain.0 (Ty (WithVar G A) B) first),
      subst (λ n. Says c n (Tm G u A)) (sym f) (grown.conclusions left.0 (Tm G u A) second),
      subst (λ n. Says c n (Tm G v (at trees B u))) (sym g) (grown.conclusions right.0 (Tm G v (at trees B u)) third),
    )
