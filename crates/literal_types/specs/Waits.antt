-- Trees under substitutions that wait.
use Rattle.std.specs.Prelude.{◌≡◌, ◌+◌, ℕ, zero, List, [], ◌∷◌, Option, None, Some}
use Rattle.trees.specs.Trees.{Tree, Subst, Var, apply}
use Rattle.trees.specs.Judgements.{Context}
use Rattle.trees.specs.Language.{Tm, Sb}
use Rattle.book.specs.Contents.{Contents}
use Rattle.book.specs.declared.kernel.NodeId.{NodeId}
use Rattle.typed_nodes.specs.Typed.{Says}
use Rattle.literal_types.specs.declared.forms.Form.{Form}
use Rattle.literal_types.specs.declared.waiting.Waiting.{Waiting}
use Rattle.literal_types.specs.declared.waiting.Waiting.TheVariants as waiting
use Rattle.literal_types.specs.declared.waiting.Place.{Place}
use Rattle.literal_types.specs.declared.waiting.Place.TheVariants as place
use Rattle.literal_types.specs.Literal.{IsNoForm}
use Rattle.literal_types.specs.Formed.{IsFormed}
use Rattle.literal_types.specs.Ways.{HasVariable}
use Rattle.literal_types.specs.Openings.{Types, weight}
use Rattle.literal_types.specs.Substitutions.{IsEntry, IsFrom, past_entry}

-- T, in H, is A, in K, under what waits, the first first
abbrev pub Waits : Contents → List Waiting → Context → Tree → Context → Tree → Type 0
Waits b [] H T K A = (H ≡ K) × (T ≡ A)
Waits b (waiting.Sub node ∷ ws) H T K A =
    (M : Context) × (d : Subst) × Says b node (Sb M d K) × Waits b ws H T M (apply A d)
Waits b (waiting.Past below entry ∷ ws) H T K A =
    (M : Context) × IsEntry b entry K M × IsFrom b below K × Waits b ws H T M (past_entry entry A)

-- T, in H, is A under the substitution of the node, to K, under what waited in the old book
abbrev pub Joins : Contents → Contents → NodeId → List Waiting → Context → Tree → Context → Tree
    → Type 0
Joins old new node ws H T K A =
    (M : Context) × (d : Subst) × Says new node (Sb M d K) × Waits old ws H T M (apply A d)

abbrev pub waiting_weight : List Waiting → ℕ
waiting_weight [] = zero
waiting_weight (waiting.Sub node ∷ ws) = weight node + waiting_weight ws
waiting_weight (waiting.Past below entry ∷ ws) = 1 + waiting_weight ws

-- T, in H, is what the node types, under what waits
pub record Stands (b : Contents) (node : NodeId) (ws : List Waiting) (H : Context) (T : Tree) :
    Type 0 where
  pub home : Context
  pub tree : Tree
  pub types : Types b node home tree
  pub waits : Waits b ws H T home tree

-- T of type S, in H, is the term of the node, under what waits
pub record StandsTyped (b : Contents) (node : NodeId) (ws : List Waiting) (H : Context)
    (T S : Tree) : Type 0 where
  pub home : Context
  pub tree : Tree
  pub type : Tree
  pub says : Says b node (Tm home tree type)
  pub waits : Waits b ws H T home tree
  pub type_waits : Waits b ws H S home type

-- T of type S, in H, is the variable of that index, under what waits
pub record IsEntered (b : Contents) (index : ℕ) (ws : List Waiting) (H : Context) (T S : Tree) :
    Type 0 where
  pub home : Context
  pub type : Tree
  pub variable : HasVariable home index type
  pub waits : Waits b ws H T home (Var index)
  pub type_waits : Waits b ws H S home type

-- T of type S, in H, is what stands at that place, under what waits
abbrev pub StandsAt : Contents → Place → List Waiting → Context → Tree → Tree → Type 0
StandsAt b (place.Variable index) ws H T S = IsEntered b index ws H T S
StandsAt b (place.Term node) ws H T S = StandsTyped b node ws H T S

abbrev pub place_weight : Place → ℕ
place_weight (place.Variable index) = zero
place_weight (place.Term node) = weight node

-- T of type S, in H, is the term of the node, under what waits, or a variable
abbrev pub StandsOrNot : Contents → Option NodeId → List Waiting → Context → Tree → Tree → Type 0
StandsOrNot b None ws H T S = (k : ℕ) × (T ≡ Var k)
StandsOrNot b (Some node) ws H T S = StandsTyped b node ws H T S

abbrev pub found_weight : Option NodeId → ℕ
found_weight None = zero
found_weight (Some node) = weight node

-- T, in H, is that form, under what waits, or no form
abbrev pub FormStands : Contents → Option Form → List Waiting → Context → Tree → Type 0
FormStands b None ws H T = IsNoForm T
FormStands b (Some form) ws H T =
    (K : Context) × (A : Tree) × IsFormed b form K A × Waits b ws H T K A
