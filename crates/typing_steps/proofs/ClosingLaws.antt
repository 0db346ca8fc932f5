-- What a checker takes from its stacks, and leaves, before it forms something over the last variable.
use Rattle.std.proofs.Common.{◌≡◌, ◌∷◌, List, Some, refl, ap, subst}
use Rattle.trees.specs.Trees.{Tree}
use Rattle.trees.specs.Judgements.{Judgement, WithVar}
use Rattle.trees.specs.Language.{Ty}
use Rattle.book.specs.Contents.{Contents}
use Rattle.book.specs.declared.kernel.NodeId.{NodeId}
use Rattle.direct.specs.Known.{Known, Variable}
use Rattle.typed_nodes.specs.declared.types.Typed.{Typed}
use Rattle.typed_nodes.specs.Typed.{Says, IsTyped}
use Rattle.typing_steps.specs.declared.state.CheckState.{CheckState}
use Rattle.typing_tasks.specs.States.{State, Inferred, place, place_of, with_found, with_inferred, with_known}
use Rattle.typing_steps.specs.Steps.{IsInferred, IsState}
use Rattle.typing_tasks.specs.Tasks.{LastInferred, before_last}

-- the node says what was found last, and is taken
abbrev pub TakesNode : CheckState → CheckState → NodeId → Type 0
TakesNode x y node = (b : Contents) (S : State) (J : Judgement) (js : List Judgement) →
    IsState b x S → S.found ≡ J ∷ js → Says b node J × IsState b y (with_found js S)

-- the term is the one that was inferred last, and is taken
abbrev pub TakesHead : CheckState → CheckState → Typed → Type 0
TakesHead x y head = (b : Contents) (S : State) (r : Inferred) (rs : List Inferred) →
    IsState b x S → S.inferred ≡ r ∷ rs → IsInferred b head r × IsState b y (with_inferred rs S)

-- the last variable or name is left
abbrev pub LeavesLast : CheckState → CheckState → Type 0
LeavesLast x y = (b : Contents) (S : State) (G : Known) →
    IsState b x S → before_last S.known ≡ Some G → IsState b y (with_known G S)

-- the last judgement is taken, and the last variable left
pub one_taken : (b : Contents) (x y z : CheckState) (node : NodeId) → TakesNode x y node → LeavesLast y z
    → (S : State) (G : Known) (A : Tree) (J : Judgement) (js : List Judgement) → IsState b x S → S.known ≡ Variable A ∷ G → S.found ≡ J ∷ js
    → Says b node J × IsState b z (with_known G (with_found js S))
one_taken b x y z node takes leaves S G A J js is known found =
    let (says, left) = takes b S J js is found in
    (says, leaves b (with_found js S) G left (ap before_last known))

-- the same of two judgements
pub two_taken : (b : Contents) (x y z w : CheckState) (node more : NodeId) → TakesNode x y node → TakesNode y z more → LeavesLast z w
    → (S : State) (G : Known) (A : Tree) (J K : Judgement) (js : List Judgement) → IsState b x S → S.known ≡ Variable A ∷ G → S.found ≡ J ∷ K ∷ js
    → Says b node J × Says b more K × IsState b w (with_known G (with_found js S))
two_taken b x y z w node more takes again leaves S G A J K js is known found =
    let (says, left) = takes b S J (K ∷ js) is found in
    let (also, before) = one_taken b y z w more again leaves (with_found (K ∷ js) S) G A K js left known refl in
    (says, also, before)

-- the last term is taken, and the type of the last variable
pub head_taken : (b : Contents) (x y z w : CheckState) (head : Typed) (node : NodeId) → TakesHead x y head → TakesNode y z node → LeavesLast z w
    → (S : State) (G : Known) (A t B : Tree) (js : List Judgement) (rs : List Inferred) → IsState b x S → S.known ≡ Variable A ∷ G → S.found ≡ Ty (place_of G) A ∷ js → LastInferred S t B rs
    → IsTyped b head (WithVar (place_of G) A) t B × Says b node (Ty (place_of G) A) × IsState b w (with_known G (with_found js (with_inferred rs S)))
head_taken b x y z w head node takes again leaves S G A t B js rs is known found last =
    let (typed, left) = takes b S (record { context = place S; term = t; type = B }) rs is last in
    let (says, before) = one_taken b y z w node again leaves (with_inferred rs S) G A (Ty (place_of G) A) js left known found in
    (subst (λ H. IsTyped b head H t B) (ap place_of known) typed, says, before)
