use Rattle.std.proofs.Common.{[], ◌∷◌, refl}
use Rattle.std.proofs.lemmas.List.Elements.{All-nil}
use Rattle.trees.specs.Judgements.{Context, WithName, trees}
use Rattle.trees.specs.Trees.{Tree, push, id}
use Rattle.trees.specs.Language.{Ctx, Ty, Tm}
use Rattle.trees.specs.Things.{ATree, AContext}
use Rattle.conditions.specs.Sides.{SideHolds}
use Rattle.recipes.specs.Derivations.{StatesAt}
use Rattle.rules.specs.Table.{at, comp, empty, f0, i0, i1}
use Rattle.book.specs.Contents.{Contents}
use Rattle.book.specs.declared.kernel.NodeId.{NodeId}
use Rattle.typing_rules.specs.Terms.{transported, transported_statement}
use Rattle.typed_nodes.specs.Calls.{MayCall}
use Rattle.typed_nodes.specs.Typed.{Says}
use Rattle.typed_nodes.proofs.HomeLaws.{typed_at}
use Rattle.typed_nodes.proofs.StandLaws.{may_call, given}
use Rattle.typed_nodes.proofs.terms.transported.Goals as goal

call : (book : Contents) (ctx line base : NodeId) (H : Context) (A a : Tree)
    → StatesAt transported_statement (AContext H ∷ ATree A ∷ ATree a ∷ []) (transported trees H A a)
    → Says book ctx (Ctx H) → Says book line (Ty (WithName H) A) → Says book base (Tm H a (at trees A (i0 trees)))
    → MayCall transported_statement book [] (ctx.0 ∷ line.0 ∷ base.0 ∷ []) (AContext H ∷ ATree A ∷ ATree a ∷ [])
call book ctx line base H A a states is_context is_line says =
    may_call transported_statement book [] (ctx.0 ∷ line.0 ∷ base.0 ∷ [])
    (AContext H ∷ ATree A ∷ ATree a ∷ []) (transported trees H A a)
    states refl tt (All-nil SideHolds) refl
    (is_context, (is_line, (says, tt)))

pub derive_two-requires-clause-may : goal.derive_two-requires-clause-may
derive_two-requires-clause-may c =
    let (H, A, a, is_context, is_line, says) = c.requires in
    let states = c.terms_at_trees.ensures.transported H A a in
    (transported_statement, AContext H ∷ ATree A ∷ ATree a ∷ [], record { derives = c.terms_are_derived.ensures.transported; first = refl }, call c.args.book.now c.args.ctx c.args.line c.args.base H A a states is_context is_line says)

pub returns-clause-typed : goal.returns-clause-typed
returns-clause-typed c = λ H A a is_context is_line says.
    let states = c.terms_at_trees.ensures.transported H A a in
    let said = given c.derive_two.new.book (c.in_ok-term.term.0 ∷ c.in_ok-term.sub.0 ∷ []) (c.in_ok-term.ensures.gives transported_statement (record { derives = c.terms_are_derived.ensures.transported; first = refl }))
    (call c.args.book.now c.args.ctx c.args.line c.args.base H A a states is_context is_line says) states in
    typed_at c.in_ok-term.term c.args.line c.in_ok-term.sub H (comp trees A (f0 trees) (empty trees) a) (at trees A (i1 trees)) (WithName H) A (push id (i1 trees))
    refl said.0 (c.in_ok-term.ensures.extends.conclusions c.args.line.0 (Ty (WithName H) A) is_line) said.1.0
