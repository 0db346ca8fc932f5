use Rattle.std.proofs.Common.{[], ◌∷◌, refl}
use Rattle.std.proofs.lemmas.List.Elements.{All-nil}
use Rattle.trees.specs.Judgements.{Context, trees}
use Rattle.trees.specs.Trees.{Tree}
use Rattle.trees.specs.Language.{Tm}
use Rattle.trees.specs.Things.{ATree, AContext}
use Rattle.conditions.specs.Sides.{SideHolds}
use Rattle.recipes.specs.Derivations.{StatesAt}
use Rattle.rules.specs.Table.{nat}
use Rattle.book.specs.Contents.{Contents}
use Rattle.book.specs.declared.kernel.NodeId.{NodeId}
use Rattle.typing_rules.specs.Terms.{successor_term, successor_term_statement}
use Rattle.typed_nodes.specs.Calls.{MayCall}
use Rattle.typed_nodes.specs.Typed.{Says}
use Rattle.typed_nodes.proofs.StandLaws.{may_call, given}
use Rattle.typed_nodes.proofs.terms.successor.Goals as goal

call : (book : Contents) (number : NodeId) (H : Context) (n : Tree)
    → StatesAt successor_term_statement (AContext H ∷ ATree n ∷ []) (successor_term trees H n)
    → Says book number (Tm H n (nat trees))
    → MayCall successor_term_statement book [] (number.0 ∷ []) (AContext H ∷ ATree n ∷ [])
call book number H n states says =
    may_call successor_term_statement book [] (number.0 ∷ [])
    (AContext H ∷ ATree n ∷ []) (successor_term trees H n)
    states refl tt (All-nil SideHolds) refl
    (says, tt)

pub derive-requires-clause-may : goal.derive-requires-clause-may
derive-requires-clause-may c =
    let (H, n, says) = c.requires in
    let states = c.terms_at_trees.ensures.successor_term H n in
    (successor_term_statement, AContext H ∷ ATree n ∷ [], record { derives = c.terms_are_derived.ensures.successor_term; first = refl }, call c.args.book.now c.args.number H n states says)

pub returns-clause-typed : goal.returns-clause-typed
returns-clause-typed c = λ H n says.
    let states = c.terms_at_trees.ensures.successor_term H n in
    let said = given c.derive.new.book (c.in_ok-derive.field-0.0 ∷ []) (c.in_ok-derive.ensures.gives successor_term_statement (record { derives = c.terms_are_derived.ensures.successor_term; first = refl }))
    (call c.args.book.now c.args.number H n states says) states in
    said.0
