use Rattle.std.proofs.Common.{[], ◌∷◌, refl}
use Rattle.std.proofs.lemmas.List.Elements.{All-nil}
use Rattle.trees.specs.Judgements.{Context, WithName, trees}
use Rattle.trees.specs.Trees.{Tree}
use Rattle.trees.specs.Language.{Ctx, Tm}
use Rattle.trees.specs.Things.{ATree, AContext}
use Rattle.conditions.specs.Sides.{SideHolds}
use Rattle.recipes.specs.Derivations.{StatesAt}
use Rattle.book.specs.Contents.{Contents}
use Rattle.book.specs.declared.kernel.NodeId.{NodeId}
use Rattle.typing_rules.specs.Terms.{path_term, path_term_statement}
use Rattle.typed_nodes.specs.Calls.{MayCall}
use Rattle.typed_nodes.specs.Typed.{Says}
use Rattle.typed_nodes.proofs.StandLaws.{may_call, given}
use Rattle.typed_nodes.proofs.terms.path.Goals as goal

call : (book : Contents) (ctx body : NodeId) (H : Context) (A b : Tree)
    → StatesAt path_term_statement (AContext H ∷ ATree A ∷ ATree b ∷ []) (path_term trees H A b)
    → Says book ctx (Ctx H) → Says book body (Tm (WithName H) b A)
    → MayCall path_term_statement book [] (ctx.0 ∷ body.0 ∷ []) (AContext H ∷ ATree A ∷ ATree b ∷ [])
call book ctx body H A b states is_context says =
    may_call path_term_statement book [] (ctx.0 ∷ body.0 ∷ [])
    (AContext H ∷ ATree A ∷ ATree b ∷ []) (path_term trees H A b)
    states refl tt (All-nil SideHolds) refl
    (is_context, (says, tt))

pub derive-requires-clause-may : goal.derive-requires-clause-may
derive-requires-clause-may c =
    let (H, A, b, is_context, says) = c.requires in
    let states = c.terms_at_trees.ensures.path_term H A b in
    (path_term_statement, AContext H ∷ ATree A ∷ ATree b ∷ [], record { derives = c.terms_are_derived.ensures.path_term; first = refl }, call c.args.book.now c.args.ctx c.args.body H A b states is_context says)

pub returns-clause-typed : goal.returns-clause-typed
returns-clause-typed c = λ H A b is_context says.
    let states = c.terms_at_trees.ensures.path_term H A b in
    let said = given c.derive.new.book (c.in_ok-derive.field-0.0 ∷ []) (c.in_ok-derive.ensures.gives path_term_statement (record { derives = c.terms_are_derived.ensures.path_term; first = refl }))
    (call c.args.book.now c.args.ctx c.args.body H A b states is_context says) states in
    said.0
