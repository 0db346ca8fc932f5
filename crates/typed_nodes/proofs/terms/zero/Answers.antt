use Rattle.std.proofs.Common.{[], ◌∷◌, refl}
use Rattle.std.proofs.lemmas.List.Elements.{All-nil}
use Rattle.trees.specs.Judgements.{Context, trees}
use Rattle.trees.specs.Language.{Ctx}
use Rattle.trees.specs.Things.{AContext}
use Rattle.conditions.specs.Sides.{SideHolds}
use Rattle.recipes.specs.Derivations.{StatesAt}
use Rattle.book.specs.Contents.{Contents}
use Rattle.book.specs.declared.kernel.NodeId.{NodeId}
use Rattle.typing_rules.specs.Terms.{zero_term, zero_term_statement}
use Rattle.typed_nodes.specs.Calls.{MayCall}
use Rattle.typed_nodes.specs.Typed.{Says}
use Rattle.typed_nodes.proofs.StandLaws.{may_call, given}
use Rattle.typed_nodes.proofs.terms.zero.Goals as goal

call : (book : Contents) (ctx : NodeId) (H : Context)
    → StatesAt zero_term_statement (AContext H ∷ []) (zero_term trees H)
    → Says book ctx (Ctx H)
    → MayCall zero_term_statement book [] (ctx.0 ∷ []) (AContext H ∷ [])
call book ctx H states is_context =
    may_call zero_term_statement book [] (ctx.0 ∷ [])
    (AContext H ∷ []) (zero_term trees H)
    states refl tt (All-nil SideHolds) refl
    (is_context, tt)

pub derive-requires-clause-may : goal.derive-requires-clause-may
derive-requires-clause-may c =
    let (H, is_context) = c.requires in
    let states = c.terms_at_trees.ensures.zero_term H in
    (zero_term_statement, AContext H ∷ [], record { derives = c.terms_are_derived.ensures.zero_term; first = refl }, call c.args.book.now c.args.ctx H states is_context)

pub returns-clause-typed : goal.returns-clause-typed
returns-clause-typed c = λ H is_context.
    let states = c.terms_at_trees.ensures.zero_term H in
    let said = given c.derive.new.book (c.in_ok-derive.field-0.0 ∷ []) (c.in_ok-derive.ensures.gives zero_term_statement (record { derives = c.terms_are_derived.ensures.zero_term; first = refl }))
    (call c.args.book.now c.args.ctx H states is_context) states in
    said.0
