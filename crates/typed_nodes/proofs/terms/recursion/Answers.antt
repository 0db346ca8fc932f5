use Rattle.std.proofs.Common.{[], ◌∷◌, refl}
use Rattle.std.proofs.lemmas.List.Elements.{All-nil}
use Rattle.trees.specs.Judgements.{Context, WithVar, trees}
use Rattle.trees.specs.Trees.{Tree, push, id}
use Rattle.trees.specs.Language.{Ctx, Ty, Tm}
use Rattle.trees.specs.Things.{ATree, AContext}
use Rattle.conditions.specs.Sides.{SideHolds}
use Rattle.recipes.specs.Derivations.{StatesAt}
use Rattle.rules.specs.Table.{at, motive_step, nat, natrec, zero}
use Rattle.book.specs.Contents.{Contents}
use Rattle.book.specs.declared.kernel.NodeId.{NodeId}
use Rattle.typing_rules.specs.Terms.{recursion, recursion_statement}
use Rattle.typed_nodes.specs.Calls.{MayCall}
use Rattle.typed_nodes.specs.Typed.{Says}
use Rattle.typed_nodes.proofs.HomeLaws.{typed_at}
use Rattle.typed_nodes.proofs.StandLaws.{may_call, given}
use Rattle.typed_nodes.proofs.terms.recursion.Goals as goal

call : (book : Contents) (ctx motive base step number : NodeId) (H : Context) (P a b n : Tree)
    → StatesAt recursion_statement (AContext H ∷ ATree P ∷ ATree a ∷ ATree b ∷ ATree n ∷ []) (recursion trees H P a b n)
    → Says book ctx (Ctx H) → Says book motive (Ty (WithVar H (nat trees)) P) → Says book base (Tm H a (at trees P (zero trees))) → Says book step (Tm H b (motive_step trees P)) → Says book number (Tm H n (nat trees))
    → MayCall recursion_statement book [] (ctx.0 ∷ motive.0 ∷ base.0 ∷ step.0 ∷ number.0 ∷ []) (AContext H ∷ ATree P ∷ ATree a ∷ ATree b ∷ ATree n ∷ [])
call book ctx motive base step number H P a b n states is_context is_motive at_zero is_step is_number =
    may_call recursion_statement book [] (ctx.0 ∷ motive.0 ∷ base.0 ∷ step.0 ∷ number.0 ∷ [])
    (AContext H ∷ ATree P ∷ ATree a ∷ ATree b ∷ ATree n ∷ []) (recursion trees H P a b n)
    states refl tt (All-nil SideHolds) refl
    (is_context, (is_motive, (at_zero, (is_step, (is_number, tt)))))

pub derive_two-requires-clause-may : goal.derive_two-requires-clause-may
derive_two-requires-clause-may c =
    let (H, P, a, b, n, is_context, is_motive, at_zero, is_step, is_number) = c.requires in
    let states = c.terms_at_trees.ensures.recursion H P a b n in
    (recursion_statement, AContext H ∷ ATree P ∷ ATree a ∷ ATree b ∷ ATree n ∷ [], record { derives = c.terms_are_derived.ensures.recursion; first = refl }, call c.args.book.now c.args.ctx c.args.motive c.args.base c.args.step c.args.number H P a b n states is_context is_motive at_zero is_step is_number)

pub returns-clause-typed : goal.returns-clause-typed
returns-clause-typed c = λ H P a b n is_context is_motive at_zero is_step is_number.
    let states = c.terms_at_trees.ensures.recursion H P a b n in
    let said = given c.derive_two.new.book (c.in_ok-term.term.0 ∷ c.in_ok-term.sub.0 ∷ []) (c.in_ok-term.ensures.gives recursion_statement (record { derives = c.terms_are_derived.ensures.recursion; first = refl }))
    (call c.args.book.now c.args.ctx c.args.motive c.args.base c.args.step c.args.number H P a b n states is_context is_motive at_zero is_step is_number) states in
    typed_at c.in_ok-term.term c.args.motive c.in_ok-term.sub H (natrec trees P a b n) (at trees P n) (WithVar H (nat trees)) P (push id n)
    refl said.0 (c.in_ok-term.ensures.extends.conclusions c.args.motive.0 (Ty (WithVar H (nat trees)) P) is_motive) said.1.0
