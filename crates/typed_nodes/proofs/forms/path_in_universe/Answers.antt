use Rattle.std.proofs.Common.{◌≡◌, ℕ, Some, [], ◌∷◌, refl}
use Rattle.std.proofs.lemmas.List.Elements.{All-nil}
use Rattle.trees.specs.Judgements.{Context, trees}
use Rattle.trees.specs.Trees.{Tree}
use Rattle.trees.specs.Language.{Ctx, Tm}
use Rattle.trees.specs.Things.{ATree, AContext}
use Rattle.conditions.specs.Sides.{SideHolds}
use Rattle.recipes.specs.Derivations.{StatesAt}
use Rattle.rules.specs.Table.{pathp, universe}
use Rattle.book.specs.Contents.{Contents}
use Rattle.book.specs.Shown.{book_means}
use Rattle.book.specs.declared.kernel.NodeId.{NodeId}
use Rattle.typing_rules.specs.Types.{path_in_universe, path_in_universe_statement}
use Rattle.typed_nodes.specs.Calls.{MayCall}
use Rattle.typed_nodes.specs.Typed.{Says}
use Rattle.typed_nodes.proofs.CallLaws.{all_said}
use Rattle.typed_nodes.proofs.StandLaws.{may_call, given}
use Rattle.typed_nodes.proofs.forms.path_in_universe.Goals as goal

call : (book : Contents) (ends : ℕ × ℕ) (ctx path : NodeId) (H : Context) (u v p : Tree)
    → StatesAt path_in_universe_statement (ATree u ∷ ATree v ∷ AContext H ∷ ATree p ∷ []) (path_in_universe trees u v H p)
    → book_means book ends.0 ≡ Some (ATree u) → book_means book ends.1 ≡ Some (ATree v)
    → Says book ctx (Ctx H) → Says book path (Tm H p (pathp trees (universe trees) u v))
    → MayCall path_in_universe_statement book (ends.0 ∷ ends.1 ∷ []) (ctx.0 ∷ path.0 ∷ []) (ATree u ∷ ATree v ∷ AContext H ∷ ATree p ∷ [])
call book ends ctx path H u v p states at_left at_right is_ctx is_path =
    may_call path_in_universe_statement book (ends.0 ∷ ends.1 ∷ []) (ctx.0 ∷ path.0 ∷ [])
    (ATree u ∷ ATree v ∷ AContext H ∷ ATree p ∷ []) (path_in_universe trees u v H p)
    states refl tt (All-nil SideHolds) (all_said (book_means book) (ends.0 ∷ ends.1 ∷ []) (ATree u ∷ ATree v ∷ []) (at_left, (at_right, tt)))
    (is_ctx, (is_path, tt))

pub derive-requires-clause-may : goal.derive-requires-clause-may
derive-requires-clause-may c =
    let (H, u, v, p, at_left, at_right, is_ctx, is_path) = c.requires in
    let states = c.types_at_trees.ensures.path_in_universe u v H p in
    (path_in_universe_statement, ATree u ∷ ATree v ∷ AContext H ∷ ATree p ∷ [], record { derives = c.types_are_derived.ensures.path_in_universe; first = refl }, call c.args.book.now c.args.ends c.args.ctx c.args.path H u v p states at_left at_right is_ctx is_path)

pub returns-clause-typed : goal.returns-clause-typed
returns-clause-typed c = λ H u v p at_left at_right is_ctx is_path.
    let states = c.types_at_trees.ensures.path_in_universe u v H p in
    let said = given c.derive.new.book (c.in_ok-derive.field-0.0 ∷ []) (c.in_ok-derive.ensures.gives path_in_universe_statement (record { derives = c.types_are_derived.ensures.path_in_universe; first = refl }))
    (call c.args.book.now c.args.ends c.args.ctx c.args.path H u v p states at_left at_right is_ctx is_path) states in
    said.0
