use Rattle.std.proofs.Common.{[], ◌∷◌, refl}
use Rattle.std.proofs.lemmas.List.Elements.{All-nil}
use Rattle.trees.specs.Judgements.{Context, WithName, trees}
use Rattle.trees.specs.Trees.{Tree}
use Rattle.trees.specs.Language.{Tm}
use Rattle.trees.specs.Things.{ATree, AContext}
use Rattle.conditions.specs.Sides.{SideHolds}
use Rattle.recipes.specs.Derivations.{StatesAt}
use Rattle.rules.specs.Table.{at, i0, i1, universe}
use Rattle.book.specs.Contents.{Contents}
use Rattle.book.specs.declared.kernel.NodeId.{NodeId}
use Rattle.typing_rules.specs.Types.{path_small, path_small_statement}
use Rattle.typed_nodes.specs.Calls.{MayCall}
use Rattle.typed_nodes.specs.Typed.{Says}
use Rattle.typed_nodes.proofs.StandLaws.{may_call, given}
use Rattle.typed_nodes.proofs.forms.path_small.Goals as goal

call : (book : Contents) (line left right : NodeId) (H : Context) (A u v : Tree)
    → StatesAt path_small_statement (AContext H ∷ ATree A ∷ ATree u ∷ ATree v ∷ []) (path_small trees H A u v)
    → Says book line (Tm (WithName H) A (universe trees)) → Says book left (Tm H u (at trees A (i0 trees))) → Says book right (Tm H v (at trees A (i1 trees)))
    → MayCall path_small_statement book [] (line.0 ∷ left.0 ∷ right.0 ∷ []) (AContext H ∷ ATree A ∷ ATree u ∷ ATree v ∷ [])
call book line left right H A u v states is_line is_left is_right =
    may_call path_small_statement book [] (line.0 ∷ left.0 ∷ right.0 ∷ [])
    (AContext H ∷ ATree A ∷ ATree u ∷ ATree v ∷ []) (path_small trees H A u v)
    states refl tt (All-nil SideHolds) refl
    (is_line, (is_left, (is_right, tt)))

pub derive-requires-clause-may : goal.derive-requires-clause-may
derive-requires-clause-may c =
    let (H, A, u, v, is_line, is_left, is_right) = c.requires in
    let states = c.types_at_trees.ensures.path_small H A u v in
    (path_small_statement, AContext H ∷ ATree A ∷ ATree u ∷ ATree v ∷ [], record { derives = c.types_are_derived.ensures.path_small; first = refl }, call c.args.book.now c.args.line c.args.left c.args.right H A u v states is_line is_left is_right)

pub returns-clause-typed : goal.returns-clause-typed
returns-clause-typed c = λ H A u v is_line is_left is_right.
    let states = c.types_at_trees.ensures.path_small H A u v in
    let said = given c.derive.new.book (c.in_ok-derive.field-0.0 ∷ []) (c.in_ok-derive.ensures.gives path_small_statement (record { derives = c.types_are_derived.ensures.path_small; first = refl }))
    (call c.args.book.now c.args.line c.args.left c.args.right H A u v states is_line is_left is_right) states in
    said.0
