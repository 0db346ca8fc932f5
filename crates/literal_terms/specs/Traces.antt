-- What terms literally are, and how they are traced to where they were made.
use Rattle.std.specs.Prelude.{◌≡◌, ◌+◌, ℕ, Bool, List, Option, None, Some, true, false, reverse}
use Rattle.trees.specs.Trees.{Tree, Subst, apply, id}
use Rattle.trees.specs.Judgements.{Context}
use Rattle.trees.specs.Language.{TyEq, Sb}
use Rattle.book.specs.Contents.{Contents}
use Rattle.book.specs.declared.kernel.NodeId.{NodeId}
use Rattle.typed_nodes.specs.Typed.{Says}
use Rattle.literal_types.specs.declared.waiting.Waiting.{Waiting}
use Rattle.literal_types.specs.Openings.{weight}
use Rattle.literal_types.specs.Waits.{StandsTyped, Waits, waiting_weight}
use Rattle.literal_terms.specs.declared.forms.LiteralTerm.{LiteralTerm}
use Rattle.literal_terms.specs.declared.traces.Trace.{Trace}
use Rattle.literal_terms.specs.declared.origins.Origin.{Origin}
use Rattle.literal_terms.specs.Forms.{IsFormed, is_literal}
use Rattle.literal_terms.specs.Origins.{Comes}

-- S and T are one type of H, or equal by the node
abbrev pub Fits : Contents → Option NodeId → Context → Tree → Tree → Type 0
Fits b None H S T = S ≡ T
Fits b (Some node) H S T = Says b node (TyEq H S T)

-- t of type T, in H, is that form under that substitution, or no literal form
abbrev pub IsLiteralTerm : Contents → Option LiteralTerm → Context → Tree → Tree → Type 0
IsLiteralTerm b None H t T = is_literal t ≡ false
IsLiteralTerm b (Some term) H t T =
    (G : Context) × (d : Subst) × (a A : Tree) × Says b term.sub (Sb H d G)
    × IsFormed b term.form G a A × (t ≡ apply a d) × Fits b term.fits H (apply A d) T

-- the substitution does what waits before K
abbrev pub IsJoined : Contents → Option NodeId → List Waiting → Context → Context → Type 0
IsJoined b None ws H K = Unit {0}
IsJoined b (Some sub) ws H K =
    (d : Subst) × Says b sub (Sb H d K) × ((A : Tree) → Waits b ws H (apply A d) K A)

-- t of type T, in H, comes from the term of the node that is reached, at a type that fits
pub record IsTraced (b : Contents) (trace : Trace) (H : Context) (t T : Tree) : Type 0 where
  pub here : Says b trace.here (Sb H id H)
  pub type : Tree
  pub at : StandsTyped b trace.node (reverse trace.waiting.items) H t type
  pub joined : IsJoined b trace.sub (reverse trace.waiting.items) H at.home
  pub fits : Fits b trace.fits H type T

-- and that node opens so
pub record IsTracedTo (b : Contents) (trace : Trace) (origin : Origin) (H : Context) (t T : Tree) :
    Type 0 where
  pub traced : IsTraced b trace H t T
  pub comes : Comes b origin traced.at.home traced.at.tree traced.at.type

-- what is still to be opened
abbrev pub trace_weight : Trace → ℕ
trace_weight trace = weight trace.node + waiting_weight (reverse trace.waiting.items)

-- where the innermost variable became something, that is traced; else the term is a variable
abbrev pub LooksUp : Contents → Trace → Bool → Context → Tree → Tree → Type 0
LooksUp b trace true H t T = IsTraced b trace H t T
LooksUp b trace false H t T = is_literal t ≡ false
