use Rattle.std.proofs.Common.{[], ◌∷◌, refl}
use Rattle.std.proofs.lemmas.List.Elements.{All-nil}
use Rattle.trees.specs.Judgements.{Context, trees}
use Rattle.trees.specs.Trees.{Tree}
use Rattle.trees.specs.Language.{Ty}
use Rattle.trees.specs.Things.{ATree, AContext}
use Rattle.conditions.specs.Sides.{SideHolds}
use Rattle.recipes.specs.Derivations.{StatesAt}
use Rattle.book.specs.Contents.{Contents}
use Rattle.book.specs.declared.kernel.NodeId.{NodeId}
use Rattle.typing_rules.specs.Places.{with_entry, with_entry_statement}
use Rattle.typed_nodes.specs.Calls.{MayCall}
use Rattle.typed_nodes.specs.Typed.{Says}
use Rattle.typed_nodes.proofs.StandLaws.{may_call, given}
use Rattle.typed_nodes.proofs.substitutions.with_variable.Goals as goal

call : (book : Contents) (ty : NodeId) (H : Context) (A : Tree)
    → StatesAt with_entry_statement (AContext H ∷ ATree A ∷ []) (with_entry trees H A)
    → Says book ty (Ty H A)
    → MayCall with_entry_statement book [] (ty.0 ∷ []) (AContext H ∷ ATree A ∷ [])
call book ty H A states is_ty =
    may_call with_entry_statement book [] (ty.0 ∷ [])
    (AContext H ∷ ATree A ∷ []) (with_entry trees H A)
    states refl tt (All-nil SideHolds) refl
    (is_ty, tt)

pub derive-requires-clause-may : goal.derive-requires-clause-may
derive-requires-clause-may c =
    let (H, A, is_ty) = c.requires in
    let states = c.places_at_trees.ensures.with_entry H A in
    (with_entry_statement, AContext H ∷ ATree A ∷ [], record { derives = c.places_are_derived.ensures.with_entry; first = refl }, call c.args.book.now c.args.ty H A states is_ty)

pub returns-clause-typed : goal.returns-clause-typed
returns-clause-typed c = λ H A is_ty.
    let states = c.places_at_trees.ensures.with_entry H A in
    let said = given c.derive.new.book (c.in_ok-derive.field-0.0 ∷ []) (c.in_ok-derive.ensures.gives with_entry_statement (record { derives = c.places_are_derived.ensures.with_entry; first = refl }))
    (call c.args.book.now c.args.ty H A states is_ty) states in
    said.0
