use Rattle.std.proofs.Common.{[], ◌∷◌, refl}
use Rattle.std.proofs.lemmas.List.Elements.{All-nil}
use Rattle.trees.specs.Judgements.{Context, trees}
use Rattle.trees.specs.Trees.{Tree}
use Rattle.trees.specs.Language.{Tm}
use Rattle.trees.specs.Things.{ATree, AContext}
use Rattle.conditions.specs.Sides.{SideHolds}
use Rattle.recipes.specs.Derivations.{StatesAt}
use Rattle.rules.specs.Table.{universe}
use Rattle.book.specs.Contents.{Contents}
use Rattle.book.specs.declared.kernel.NodeId.{NodeId}
use Rattle.typing_rules.specs.Types.{small_type, small_type_statement}
use Rattle.typed_nodes.specs.Calls.{MayCall}
use Rattle.typed_nodes.specs.Typed.{Says}
use Rattle.typed_nodes.proofs.StandLaws.{may_call, given}
use Rattle.typed_nodes.proofs.forms.small_type.Goals as goal

call : (book : Contents) (term : NodeId) (H : Context) (A : Tree)
    → StatesAt small_type_statement (AContext H ∷ ATree A ∷ []) (small_type trees H A)
    → Says book term (Tm H A (universe trees))
    → MayCall small_type_statement book [] (term.0 ∷ []) (AContext H ∷ ATree A ∷ [])
call book term H A states is_term =
    may_call small_type_statement book [] (term.0 ∷ [])
    (AContext H ∷ ATree A ∷ []) (small_type trees H A)
    states refl tt (All-nil SideHolds) refl
    (is_term, tt)

pub derive-requires-clause-may : goal.derive-requires-clause-may
derive-requires-clause-may c =
    let (H, A, is_term) = c.requires in
    let states = c.types_at_trees.ensures.small_type H A in
    (small_type_statement, AContext H ∷ ATree A ∷ [], record { derives = c.types_are_derived.ensures.small_type; first = refl }, call c.args.book.now c.args.term H A states is_term)

pub returns-clause-typed : goal.returns-clause-typed
returns-clause-typed c = λ H A is_term.
    let states = c.types_at_trees.ensures.small_type H A in
    let said = given c.derive.new.book (c.in_ok-derive.field-0.0 ∷ []) (c.in_ok-derive.ensures.gives small_type_statement (record { derives = c.types_are_derived.ensures.small_type; first = refl }))
    (call c.args.book.now c.args.term H A states is_term) states in
    said.0
