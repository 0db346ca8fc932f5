use Rattle.std.proofs.Common.{[], ◌∷◌, refl}
use Rattle.std.proofs.lemmas.List.Elements.{All-nil}
use Rattle.trees.specs.Judgements.{Context, trees}
use Rattle.trees.specs.Language.{Ctx}
use Rattle.trees.specs.Things.{AContext}
use Rattle.conditions.specs.Sides.{SideHolds}
use Rattle.recipes.specs.Derivations.{StatesAt}
use Rattle.book.specs.Contents.{Contents}
use Rattle.book.specs.declared.kernel.NodeId.{NodeId}
use Rattle.typing_rules.specs.Places.{with_name, with_name_statement}
use Rattle.typed_nodes.specs.Calls.{MayCall}
use Rattle.typed_nodes.specs.Typed.{Says}
use Rattle.typed_nodes.proofs.StandLaws.{may_call, given}
use Rattle.typed_nodes.proofs.substitutions.with_name.Goals as goal

call : (book : Contents) (ctx : NodeId) (H : Context)
    → StatesAt with_name_statement (AContext H ∷ []) (with_name trees H)
    → Says book ctx (Ctx H)
    → MayCall with_name_statement book [] (ctx.0 ∷ []) (AContext H ∷ [])
call book ctx H states is_ctx =
    may_call with_name_statement book [] (ctx.0 ∷ [])
    (AContext H ∷ []) (with_name trees H)
    states refl tt (All-nil SideHolds) refl
    (is_ctx, tt)

pub derive-requires-clause-may : goal.derive-requires-clause-may
derive-requires-clause-may c =
    let (H, is_ctx) = c.requires in
    let states = c.places_at_trees.ensures.with_name H in
    (with_name_statement, AContext H ∷ [], record { derives = c.places_are_derived.ensures.with_name; first = refl }, call c.args.book.now c.args.ctx H states is_ctx)

pub returns-clause-typed : goal.returns-clause-typed
returns-clause-typed c = λ H is_ctx.
    let states = c.places_at_trees.ensures.with_name H in
    let said = given c.derive.new.book (c.in_ok-derive.field-0.0 ∷ []) (c.in_ok-derive.ensures.gives with_name_statement (record { derives = c.places_are_derived.ensures.with_name; first = refl }))
    (call c.args.book.now c.args.ctx H states is_ctx) states in
    said.0
