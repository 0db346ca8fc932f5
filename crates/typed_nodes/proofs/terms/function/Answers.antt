use Rattle.std.proofs.Common.{[], ◌∷◌, refl}
use Rattle.std.proofs.lemmas.List.Elements.{All-nil}
use Rattle.trees.specs.Judgements.{Context, WithVar, trees}
use Rattle.trees.specs.Trees.{Tree}
use Rattle.trees.specs.Language.{Ty, Tm}
use Rattle.trees.specs.Things.{ATree, AContext}
use Rattle.conditions.specs.Sides.{SideHolds}
use Rattle.recipes.specs.Derivations.{StatesAt}
use Rattle.book.specs.Contents.{Contents}
use Rattle.book.specs.declared.kernel.NodeId.{NodeId}
use Rattle.typing_rules.specs.Terms.{function, function_statement}
use Rattle.typed_nodes.specs.Calls.{MayCall}
use Rattle.typed_nodes.specs.Typed.{Says}
use Rattle.typed_nodes.proofs.StandLaws.{may_call, given}
use Rattle.typed_nodes.proofs.terms.function.Goals as goal

call : (book : Contents) (domain body : NodeId) (H : Context) (A b B : Tree)
    → StatesAt function_statement (AContext H ∷ ATree A ∷ ATree b ∷ ATree B ∷ []) (function trees H A b B)
    → Says book domain (Ty H A) → Says book body (Tm (WithVar H A) b B)
    → MayCall function_statement book [] (domain.0 ∷ body.0 ∷ []) (AContext H ∷ ATree A ∷ ATree b ∷ ATree B ∷ [])
call book domain body H A b B states is_type says =
    may_call function_statement book [] (domain.0 ∷ body.0 ∷ [])
    (AContext H ∷ ATree A ∷ ATree b ∷ ATree B ∷ []) (function trees H A b B)
    states refl tt (All-nil SideHolds) refl
    (is_type, (says, tt))

pub derive-requires-clause-may : goal.derive-requires-clause-may
derive-requires-clause-may c =
    let (H, A, b, B, is_type, says) = c.requires in
    let states = c.terms_at_trees.ensures.function H A b B in
    (function_statement, AContext H ∷ ATree A ∷ ATree b ∷ ATree B ∷ [], record { derives = c.terms_are_derived.ensures.function; first = refl }, call c.args.book.now c.args.domain c.args.body H A b B states is_type says)

pub returns-clause-typed : goal.returns-clause-typed
returns-clause-typed c = λ H A b B is_type says.
    let states = c.terms_at_trees.ensures.function H A b B in
    let said = given c.derive.new.book (c.in_ok-derive.field-0.0 ∷ []) (c.in_ok-derive.ensures.gives function_statement (record { derives = c.terms_are_derived.ensures.function; first = refl }))
    (call c.args.book.now c.args.domain c.args.body H A b B states is_type says) states in
    said.0
