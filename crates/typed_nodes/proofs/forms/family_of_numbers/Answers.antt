use Rattle.std.proofs.Common.{[], ◌∷◌, refl}
use Rattle.std.proofs.lemmas.List.Elements.{All-nil}
use Rattle.trees.specs.Judgements.{Context, trees}
use Rattle.trees.specs.Trees.{Tree}
use Rattle.trees.specs.Language.{Ctx, Tm}
use Rattle.trees.specs.Things.{ATree, AContext}
use Rattle.conditions.specs.Sides.{SideHolds}
use Rattle.recipes.specs.Derivations.{StatesAt}
use Rattle.rules.specs.Table.{nat, pi, universe}
use Rattle.book.specs.Contents.{Contents}
use Rattle.book.specs.declared.kernel.NodeId.{NodeId}
use Rattle.typing_rules.specs.Types.{family_of_numbers, family_of_numbers_statement}
use Rattle.typed_nodes.specs.Calls.{MayCall}
use Rattle.typed_nodes.specs.Typed.{Says}
use Rattle.typed_nodes.proofs.StandLaws.{may_call, given}
use Rattle.typed_nodes.proofs.forms.family_of_numbers.Goals as goal

call : (book : Contents) (ctx function : NodeId) (H : Context) (p : Tree)
    → StatesAt family_of_numbers_statement (AContext H ∷ ATree p ∷ []) (family_of_numbers trees H p)
    → Says book ctx (Ctx H) → Says book function (Tm H p (pi trees (nat trees) (universe trees)))
    → MayCall family_of_numbers_statement book [] (ctx.0 ∷ function.0 ∷ []) (AContext H ∷ ATree p ∷ [])
call book ctx function H p states is_ctx is_function =
    may_call family_of_numbers_statement book [] (ctx.0 ∷ function.0 ∷ [])
    (AContext H ∷ ATree p ∷ []) (family_of_numbers trees H p)
    states refl tt (All-nil SideHolds) refl
    (is_ctx, (is_function, tt))

pub derive-requires-clause-may : goal.derive-requires-clause-may
derive-requires-clause-may c =
    let (H, p, is_ctx, is_function) = c.requires in
    let states = c.types_at_trees.ensures.family_of_numbers H p in
    (family_of_numbers_statement, AContext H ∷ ATree p ∷ [], record { derives = c.types_are_derived.ensures.family_of_numbers; first = refl }, call c.args.book.now c.args.ctx c.args.function H p states is_ctx is_function)

pub returns-clause-typed : goal.returns-clause-typed
returns-clause-typed c = λ H p is_ctx is_function.
    let states = c.types_at_trees.ensures.family_of_numbers H p in
    let said = given c.derive.new.book (c.in_ok-derive.field-0.0 ∷ []) (c.in_ok-derive.ensures.gives family_of_numbers_statement (record { derives = c.types_are_derived.ensures.family_of_numbers; first = refl }))
    (call c.args.book.now c.args.ctx c.args.function H p states is_ctx is_function) states in
    said.0
