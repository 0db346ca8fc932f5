-- What stands before the last variable of a place, and what it is there.
use Rattle.std.proofs.Common.{◌≡◌, ◌-◌, ◌≤◌, ℕ, suc, sym, ap, subst, ◌∙◌, arith}
use Rattle.trees.specs.Trees.{Tree, apply, shift_by}
use Rattle.trees.specs.Judgements.{Context, WithVar}
use Rattle.trees.specs.Language.{Ty, Tm}
use Rattle.translation.specs.Terms.{universe, lifted}
use Rattle.book.specs.Contents.{Contents}
use Rattle.book.specs.declared.kernel.NodeId.{NodeId}
use Rattle.typed_nodes.specs.Typed.{Says}
use Rattle.typed_contexts.specs.Contexts.{depth_of, outside, at_depth}

module _ (H K : Context) (B : Tree) (n : ℕ) (is : H ≡ WithVar K B) (deep : n ≡ depth_of H) where
  deeper : n ≡ suc (depth_of K)
  deeper = deep ∙ ap depth_of is

  pub at_least_one : 1 ≤ n
  at_least_one = omega (arith, deeper)

  pub within_one : n - 1 ≤ depth_of H
  within_one = omega (arith, deep)

  one_past : depth_of H - (n - 1) ≡ 1
  one_past = omega (arith, deep, deeper)

  before_one : K ≡ at_depth (n - 1) H
  before_one = ap (λ L. outside 1 L) (sym is) ∙ ap (λ k. outside k H) (sym one_past)

  pub type_before : (b : Contents) (node : NodeId) (A : Tree) → Says b node (Ty K A) → Says b node (Ty (at_depth (n - 1) H) A)
  type_before b node A says = subst (λ L. Says b node (Ty L A)) before_one says

  pub term_before : (b : Contents) (node : NodeId) (A : Tree) → Says b node (Tm K A universe) → Says b node (Tm (at_depth (n - 1) H) A universe)
  term_before b node A says = subst (λ L. Says b node (Tm L A universe)) before_one says

  pub type_lifted : (b : Contents) (node : NodeId) (A : Tree) → Says b node (Ty H (apply A (shift_by (depth_of H - (n - 1))))) → Says b node (Ty H (lifted A))
  type_lifted b node A says = subst (λ k. Says b node (Ty H (apply A (shift_by k)))) one_past says

  pub term_lifted : (b : Contents) (node : NodeId) (A : Tree) → Says b node (Tm H (apply A (shift_by (depth_of H - (n - 1)))) (apply universe (shift_by (depth_of H - (n - 1))))) → Says b node (Tm H (lifted A) universe)
  term_lifted b node A says = subst (λ k. Says b node (Tm H (apply A (shift_by k)) (apply universe (shift_by k)))) one_past says
