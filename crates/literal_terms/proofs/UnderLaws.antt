-- What derived rules give, node by node.
use Rattle.std.proofs.Common.{◌≡◌, ◌<◌, ℕ, List, length, sym, ◌∙◌, ap, ap₂, Option, Some}
use Rattle.std.specs.Prelude.{slice_get}
use Rattle.trees.specs.Trees.{Tree, Subst, apply, push}
use Rattle.trees.specs.Judgements.{Context, Judgement, trees}
use Rattle.trees.specs.Language.{Tm, TmEq}
use Rattle.substitution.specs.Forms.{lift}
use Rattle.substitution.proofs.BinderLaws.{apply_under-one, at-apply_lift}
use Rattle.rules.specs.Table.{at, lam, pathp, pi, plam, sig}
use Rattle.trees.specs.Things.{Thing}
use Rattle.recipes.specs.Statements.{Statement, Claimed}
use Rattle.recipes.specs.Derivations.{StatesAt, conclusions_at}
use Rattle.book.specs.Contents.{Contents}
use Rattle.book.specs.Shown.{book_concludes}
use Rattle.typed_nodes.specs.Calls.{MayCall, Gives}
use Rattle.literal_types.proofs.StepLaws.{said_at, counted}

module _ {s : Statement} {old : Contents} {parts premises : List ℕ} {things : List Thing} {claimed : Claimed trees} (new : Contents) (nodes : List ℕ) (gives : Gives s old new parts premises nodes) (call : MayCall s old parts premises things) (states : StatesAt s things claimed) where
  pub given_at : (i k : ℕ) (J : Judgement) → slice_get nodes i ≡ Some k → slice_get claimed.gives i ≡ Some J → book_concludes new k ≡ Some J
  given_at i k J at e = said_at (book_concludes new) nodes (conclusions_at s things) i k J (gives things call) at (ap (λ xs. slice_get xs i) states.gives ∙ e)

  pub given_count : (n : ℕ) → n < length claimed.gives → n < length nodes
  given_count n lt = counted (book_concludes new) nodes (conclusions_at s things) claimed.gives n (gives things call) states.gives lt

-- forms under a substitution

pub lam_under : (A s : Tree) (d : Subst) → apply (lam trees A s) d ≡ lam trees (apply A d) (apply s (lift trees d))
lam_under A s d = ap (lam trees (apply A d)) (apply_under-one s d)

pub pi_under : (A B : Tree) (d : Subst) → apply (pi trees A B) d ≡ pi trees (apply A d) (apply B (lift trees d))
pi_under A B d = ap (pi trees (apply A d)) (apply_under-one B d)

pub sig_under : (A B : Tree) (d : Subst) → apply (sig trees A B) d ≡ sig trees (apply A d) (apply B (lift trees d))
sig_under A B d = ap (sig trees (apply A d)) (apply_under-one B d)

pub plam_under : (s : Tree) (d : Subst) → apply (plam trees s) d ≡ plam trees (apply s (lift trees d))
plam_under s d = ap (plam trees) (apply_under-one s d)

pub pathp_under : (A u v : Tree) (d : Subst) → apply (pathp trees A u v) d ≡ pathp trees (apply A (lift trees d)) (apply u d) (apply v d)
pathp_under A u v d = ap (λ T. pathp trees T (apply u d) (apply v d)) (apply_under-one A d)

-- at an end, or at a term

pub end_under : {o : Option Judgement} (H : Context) (s u A r : Tree) (d : Subst) → o ≡ Some (TmEq H (apply s (push d r)) u (apply A (push d r))) → o ≡ Some (TmEq H (at trees (apply s (lift trees d)) r) u (at trees (apply A (lift trees d)) r))
end_under H s u A r d says = says ∙ ap₂ (λ x y. Some (TmEq H x u y)) (sym (at-apply_lift s r d)) (sym (at-apply_lift A r d))

pub value_under : {o : Option Judgement} (H : Context) (v B a : Tree) (d : Subst) → o ≡ Some (Tm H v (apply B (push d a))) → o ≡ Some (Tm H v (at trees (apply B (lift trees d)) a))
value_under H v B a d says = says ∙ ap (λ T. Some (Tm H v T)) (sym (at-apply_lift B a d))
