use Rattle.std.proofs.Common.{[], ◌∷◌, refl}
use Rattle.std.proofs.lemmas.List.Elements.{All-nil}
use Rattle.trees.specs.Judgements.{Context, WithVar, trees}
use Rattle.trees.specs.Trees.{Tree}
use Rattle.trees.specs.Language.{Ctx, Ty}
use Rattle.trees.specs.Things.{ATree, AContext}
use Rattle.conditions.specs.Sides.{SideHolds}
use Rattle.recipes.specs.Derivations.{StatesAt}
use Rattle.rules.specs.Table.{nat}
use Rattle.book.specs.Contents.{Contents}
use Rattle.book.specs.declared.kernel.NodeId.{NodeId}
use Rattle.typing_rules.specs.Types.{motive_step, motive_step_statement}
use Rattle.typed_nodes.specs.Calls.{MayCall}
use Rattle.typed_nodes.specs.Typed.{Says}
use Rattle.typed_nodes.proofs.StandLaws.{may_call, given}
use Rattle.typed_nodes.proofs.forms.motive_step.Goals as goal

call : (book : Contents) (ctx motive : NodeId) (H : Context) (P : Tree)
    → StatesAt motive_step_statement (AContext H ∷ ATree P ∷ []) (motive_step trees H P)
    → Says book ctx (Ctx H) → Says book motive (Ty (WithVar H (nat trees)) P)
    → MayCall motive_step_statement book [] (ctx.0 ∷ motive.0 ∷ []) (AContext H ∷ ATree P ∷ [])
call book ctx motive H P states is_ctx is_motive =
    may_call motive_step_statement book [] (ctx.0 ∷ motive.0 ∷ [])
    (AContext H ∷ ATree P ∷ []) (motive_step trees H P)
    states refl tt (All-nil SideHolds) refl
    (is_ctx, (is_motive, tt))

pub derive-requires-clause-may : goal.derive-requires-clause-may
derive-requires-clause-may c =
    let (H, P, is_ctx, is_motive) = c.requires in
    let states = c.types_at_trees.ensures.motive_step H P in
    (motive_step_statement, AContext H ∷ ATree P ∷ [], record { derives = c.types_are_derived.ensures.motive_step; first = refl }, call c.args.book.now c.args.ctx c.args.motive H P states is_ctx is_motive)

pub returns-clause-typed : goal.returns-clause-typed
returns-clause-typed c = λ H P is_ctx is_motive.
    let states = c.types_at_trees.ensures.motive_step H P in
    let said = given c.derive.new.book (c.in_ok-derive.field-0.0 ∷ []) (c.in_ok-derive.ensures.gives motive_step_statement (record { derives = c.types_are_derived.ensures.motive_step; first = refl }))
    (call c.args.book.now c.args.ctx c.args.motive H P states is_ctx is_motive) states in
    said.0
