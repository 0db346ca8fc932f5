-- Entries of contexts, and what the rules of substitutions say of them.
use Rattle.std.specs.Prelude.{◌≡◌, ◌+◌, ℕ, zero, List, [], ◌∷◌, Some, IsTrue}
use Rattle.trees.specs.Trees.{Tree, Subst, id, then, push, apply}
use Rattle.trees.specs.Judgements.{Context, WithVar, WithName, WithFace, trees}
use Rattle.trees.specs.Language.{Ctx, Ty, Tm, Sb}
use Rattle.trees.specs.Things.{ATree}
use Rattle.conditions.specs.Sides.{is_face}
use Rattle.rules.specs.Table.{weakened}
use Rattle.book.specs.Contents.{Contents}
use Rattle.book.specs.Shown.{book_means}
use Rattle.book.specs.declared.kernel.NodeId.{NodeId}
use Rattle.typed_nodes.specs.Typed.{Says}
use Rattle.literal_types.specs.declared.entries.Entry.{Entry}
use Rattle.literal_types.specs.declared.entries.Entry.TheVariants as entry
use Rattle.literal_types.specs.declared.sources.Base.{Base}
use Rattle.literal_types.specs.declared.sources.Base.TheVariants as base
use Rattle.literal_types.specs.declared.substitutions.Substitution.{Substitution}
use Rattle.literal_types.specs.declared.substitutions.Substitution.TheVariants as sub
use Rattle.literal_types.specs.Openings.{weight}

-- M is K with that entry
abbrev pub IsEntry : Contents → Entry → Context → Context → Type 0
IsEntry b (entry.Variable ty) K M = (A : Tree) × Says b ty (Ty K A) × (M ≡ WithVar K A)
IsEntry b entry.Name K M = M ≡ WithName K
IsEntry b (entry.Face row) K M =
    (p : Tree) × (book_means b row ≡ Some (ATree p)) × IsTrue (is_face K p) × (M ≡ WithFace K p)

-- the base is K
abbrev pub IsBase : Contents → Base → Context → Type 0
IsBase b (base.Context ctx) K = Says b ctx (Ctx K)
IsBase b (base.Variable ty) K =
    (L : Context) × (A : Tree) × Says b ty (Ty L A) × (K ≡ WithVar L A)

-- H is K with these entries, the innermost last
abbrev pub AreEntries : Contents → List Entry → Context → Context → Type 0
AreEntries b [] K H = K ≡ H
AreEntries b (e ∷ es) K H = (M : Context) × IsEntry b e K M × AreEntries b es M H

-- the tree past that entry
abbrev pub past_entry : Entry → Tree → Tree
past_entry (entry.Variable ty) A = weakened trees A
past_entry entry.Name A = weakened trees A
past_entry (entry.Face row) A = A

-- the node is of a substitution from K
pub record IsFrom (b : Contents) (node : NodeId) (K : Context) : Type 0 where
  pub sub : Subst
  pub target : Context
  pub says : Says b node (Sb K sub target)

-- the substitution d from M to K, by the rule of its node
abbrev pub Unfolds : Contents → Substitution → Context → Subst → Context → Type 0
Unfolds b (sub.Identity ctx) M d K = (M ≡ K) × (d ≡ id) × Says b ctx (Ctx M)
Unfolds b (sub.Composite first second) M d K =
    (L : Context) × (e f : Subst) × Says b first (Sb M e L) × Says b second (Sb L f K)
    × (d ≡ then f e)
Unfolds b (sub.Past below entry) M d K =
    (L : Context) × (e : Subst) × Says b below (Sb L e K) × IsEntry b entry L M
    × ((A : Tree) → apply A d ≡ past_entry entry (apply A e))
Unfolds b (sub.Pushed below term) M d K =
    (G : Context) × (e : Subst) × (A a : Tree) × Says b below (Sb M e G)
    × Says b term (Tm M a (apply A e)) × (d ≡ push e a) × (K ≡ WithVar G A)
Unfolds b (sub.Formula below) M d K =
    (G : Context) × (e : Subst) × (r : Tree) × Says b below (Sb M e G) × (d ≡ push e r)
    × (K ≡ WithName G)
Unfolds b (sub.OnFace below) M d K =
    (G : Context) × (p : Tree) × Says b below (Sb M d G) × (K ≡ WithFace G p)

-- what is to be opened next
abbrev pub substitution_weight : Substitution → ℕ
substitution_weight (sub.Identity ctx) = zero
substitution_weight (sub.Composite first second) = weight first + weight second
substitution_weight (sub.Past below entry) = 1 + weight below
substitution_weight (sub.Pushed below term) = weight below + weight term
substitution_weight (sub.Formula below) = weight below
substitution_weight (sub.OnFace below) = weight below
