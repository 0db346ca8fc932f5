use Rattle.std.proofs.Common.{[], ◌∷◌, refl}
use Rattle.std.proofs.lemmas.List.Elements.{All-nil}
use Rattle.trees.specs.Judgements.{Context, trees}
use Rattle.trees.specs.Language.{Ctx}
use Rattle.trees.specs.Things.{AContext}
use Rattle.conditions.specs.Sides.{SideHolds}
use Rattle.recipes.specs.Derivations.{StatesAt}
use Rattle.book.specs.Contents.{Contents}
use Rattle.book.specs.declared.kernel.NodeId.{NodeId}
use Rattle.typing_rules.specs.Types.{numbers_type, numbers_type_statement}
use Rattle.typed_nodes.specs.Calls.{MayCall}
use Rattle.typed_nodes.specs.Typed.{Says}
use Rattle.typed_nodes.proofs.StandLaws.{may_call, given}
use Rattle.typed_nodes.proofs.forms.numbers_type.Goals as goal

call : (book : Contents) (ctx : NodeId) (H : Context)
    → StatesAt numbers_type_statement (AContext H ∷ []) (numbers_type trees H)
    → Says book ctx (Ctx H)
    → MayCall numbers_type_statement book [] (ctx.0 ∷ []) (AContext H ∷ [])
call book ctx H states is_ctx =
    may_call numbers_type_statement book [] (ctx.0 ∷ [])
    (AContext H ∷ []) (numbers_type trees H)
    states refl tt (All-nil SideHolds) refl
    (is_ctx, tt)

pub derive_two-requires-clause-may : goal.derive_two-requires-clause-may
derive_two-requires-clause-may c =
    let (H, is_ctx) = c.requires in
    let states = c.types_at_trees.ensures.numbers_type H in
    (numbers_type_statement, AContext H ∷ [], record { derives = c.types_are_derived.ensures.numbers_type; first = refl }, call c.args.book.now c.args.ctx H states is_ctx)

pub returns-clause-typed : goal.returns-clause-typed
returns-clause-typed c = λ H is_ctx.
    let states = c.types_at_trees.ensures.numbers_type H in
    let said = given c.derive_two.new.book (c.in_ok-derive_two.field-0.0.0 ∷ c.in_ok-derive_two.field-0.1.0 ∷ []) (c.in_ok-derive_two.ensures.gives numbers_type_statement (record { derives = c.types_are_derived.ensures.numbers_type; first = refl }))
    (call c.args.book.now c.args.ctx H states is_ctx) states in
    (said.0, said.1.0)
