-- That the state of a checker has, in a book, nodes that say so; and what a step of it does.
use Rattle.std.specs.Prelude.{◌≡◌, ℕ, List, [], ◌∷◌, ◌++◌, ◌<◌, reverse, Option, None, Some, Bool}
use Rattle.std.specs.Prelude.{true, false, if◌then◌else◌}
use Rattle.std.specs.Option.{option_and_then}
use Rattle.std.specs.List.{AllZip}
use Rattle.trees.specs.Trees.{Tree}
use Rattle.trees.specs.Judgements.{Context, WithVar}
use Rattle.trees.specs.Language.{Ty, Tm}
use Rattle.trees.specs.Things.{ATree}
use Rattle.conditions.specs.Sides.{is_formula}
use Rattle.translation.specs.Terms.{papp}
use Rattle.translation.specs.Translated.{Stated}
use Rattle.codes.specs.declared.formula.Formula.{Formula}
use Rattle.codes.specs.Codes.{formula}
use Rattle.book.specs.Contents.{Contents}
use Rattle.book.specs.Shown.{book_means}
use Rattle.direct.specs.Known.{Known, Variable, Interval, Definition, value_at}
use Rattle.direct.specs.Typings.{where_true}
use Rattle.direct.specs.Literal.{same_tree, at, pi_of, path_type_of}
use Rattle.typed_contexts.specs.Contexts.{depth_of}
use Rattle.typed_contexts.specs.Places.{IsPlace}
use Rattle.typed_nodes.specs.declared.types.Typed.{Typed}
use Rattle.typed_nodes.specs.declared.types.TypeAt.{TypeAt}
use Rattle.typed_nodes.specs.Typed.{Says, IsTypeAt, IsTyped}
use Rattle.typing_steps.specs.declared.state.Root.{Root}
use Rattle.typing_steps.specs.declared.state.CheckState.{CheckState}
use Rattle.typing_steps.specs.declared.state.InScope.{InScope}
use Rattle.numbered_scope.specs.declared.numbered.Numbered.{Numbered}
use Rattle.typing_tasks.specs.declared.tasks.Task.{Task}
use Rattle.typing_tasks.specs.declared.tasks.Tasks.{Tasks}
use Rattle.typing_tasks.specs.declared.tasks.Next.{Next}
use Rattle.typing_tasks.specs.declared.tasks.Next.TheVariants.{Moved, NotDirect}
use Rattle.typing_tasks.specs.States.{State, Inferred, place, place_of, under, with_inferred}
use Rattle.typing_tasks.specs.States.{inferring}
use Rattle.typing_tasks.specs.Tasks.{Does, Run}
use Rattle.typing_tasks.specs.Weights.{weight, weights}

-- items, the last first, that stand for these
abbrev pub IsStack : {A B : Type 0} → (A → B → Type 0) → List A → List B → Type 0
IsStack R items [] = items ≡ []
IsStack {A} R items (x ∷ xs) =
    (rest : List A) × (a : A) × (items ≡ rest ++ a ∷ []) × R a x × IsStack R rest xs

abbrev pub IsInferred : Contents → Typed → Inferred → Type 0
IsInferred b t r = IsTyped b t r.context r.term r.type

-- the nodes of a definition
abbrev pub IsRoot : Contents → Root → Context → Tree → Tree → Type 0
IsRoot b r H A t = Says b r.ty (Ty H A) × Says b r.body (Tm H t A)

abbrev pub IsStated : Contents → Root → Stated ℕ → Type 0
IsStated b r d = IsRoot b r d.context d.type d.body

-- the definitions in scope, with their places
abbrev pub AreInScope : Contents → List (Numbered InScope) → Known → Type 0
AreInScope b items [] = items ≡ []
AreInScope b items (Variable A ∷ G) = AreInScope b items G
AreInScope b items (Interval ∷ G) = AreInScope b items G
AreInScope b items (Definition n t A ∷ G) =
    (rest : List (Numbered InScope)) × (d : Numbered InScope) × (items ≡ rest ++ d ∷ [])
    × (d.number ≡ n) × (d.value.depth ≡ depth_of (place_of G))
    × IsRoot b d.value.root (place_of G) A t × AreInScope b rest G

pub record IsState (b : Contents) (x : CheckState) (S : State) : Type 0 where
  pub at : IsPlace b x.places (place S)
  pub scope : AreInScope b x.scope.items.items S.known
  pub nodes : IsStack (Says b) x.nodes.items S.found
  pub heads : IsStack (IsInferred b) x.heads.items S.inferred
  pub roots : AllZip (IsStated b) x.roots.items S.stated

-- steps

-- the task can be done in the state
abbrev pub MayStep : Contents → CheckState → Task → Type 0
MayStep b x t = (S : State) × (M : Option State) × IsState b x S × Does b t S M

-- the task is done, or what it looks at is not direct
abbrev pub Settles : Contents → CheckState → Next → Option State → Type 0
Settles b x NotDirect M = M ≡ None
Settles b x Moved M = (S : State) × IsState b x S × (M ≡ Some S)

-- tasks that are to be done, the first last, before these
abbrev pub Planned : Tasks → Tasks → List Task → Type 0
Planned old new ts = new.items.items ≡ old.items.items ++ reverse ts

-- What is planned makes of the state what the task makes, and weighs less; or what the task looks
-- at is not direct.
abbrev pub Leaves :
    Contents → CheckState → Tasks → Tasks → Task → Next → Option State → Type 0
Leaves b x old new t NotDirect M = M ≡ None
Leaves b x old new t Moved M =
    (S : State) × (ts : List Task) × IsState b x S × Planned old new ts
    × (weights ts < weight t) × Run b ts S M

-- wherever the task can be done, the step does it, or begins it
abbrev pub Steps : Contents → Contents → CheckState → CheckState → Tasks → Tasks → Task → Next
    → Type 0
Steps b c x y old new t next =
    (S : State) (M : Option State) → IsState b x S → Does b t S M → Leaves c y old new t next M

-- the step does the task
abbrev pub Finishes : Contents → Contents → CheckState → CheckState → Task → Next → Type 0
Finishes b c x y t next =
    (S : State) (M : Option State) → IsState b x S → Does b t S M → Settles c y next M

-- the step begins it, whatever the checker is
abbrev pub Plans : Tasks → Tasks → Task → Next → Type 0
Plans old new t next =
    (b : Contents) (x : CheckState) (S : State) (M : Option State) → IsState b x S → Does b t S M
    → Leaves b x old new t next M

-- the same of a task that makes this of a state
abbrev pub PlansFor : Tasks → Tasks → Task → (State → Option State) → Next → Type 0
PlansFor old new t f next =
    (b : Contents) (x : CheckState) (S : State) → IsState b x S
    → Leaves b x old new t next (f S)

-- the codomain, where a type is literally one of functions from A
abbrev pub taken : Tree → Tree → Option Tree
taken A W = option_and_then (λ F. if same_tree A F.domain then Some F.codomain else None) (pi_of W)

-- one variable was taken, or none can be
abbrev pub Takes : Contents → CheckState → Option TypeAt → Tree → Tree → State → Type 0
Takes b x None A W S = taken A W ≡ None
Takes b x (Some ty) A W S =
    (V : Tree) × (taken A W ≡ Some V) × IsTypeAt b ty (WithVar (place S) A) V
    × IsState b x (under (Variable A) S)

-- a term of the type A at a formula, if A is a type of paths
abbrev pub at_formula : Formula → Tree → Tree → State → Option State
at_formula f a A S =
    let r = value_at S.known (formula f) in
    option_and_then (λ P. where_true (is_formula (place S) r)
    (Some (inferring (papp a r) (at P.line r) S))) (path_type_of A)

-- the head was taken at the formula, or can't be
abbrev pub GoesAt :
    Contents → CheckState → Bool → Formula → Tree → Tree → List Inferred → State → Type 0
GoesAt b x true f a A rs S =
    (T : State) × (at_formula f a A (with_inferred rs S) ≡ Some T) × IsState b x T
GoesAt b x false f a A rs S = at_formula f a A (with_inferred rs S) ≡ None

-- the row of a formula over the names of H, if it is one
abbrev pub IsFormulaRow : Contents → Option ℕ → Context → Tree → Type 0
IsFormulaRow b None H r = is_formula H r ≡ false
IsFormulaRow b (Some row) H r =
    (is_formula H r ≡ true) × (book_means b row ≡ Some (ATree r))
