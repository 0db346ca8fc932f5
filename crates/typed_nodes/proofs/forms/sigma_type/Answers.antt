use Rattle.std.proofs.Common.{[], ◌∷◌, refl}
use Rattle.std.proofs.lemmas.List.Elements.{All-nil}
use Rattle.trees.specs.Judgements.{Context, WithVar, trees}
use Rattle.trees.specs.Trees.{Tree}
use Rattle.trees.specs.Language.{Ty}
use Rattle.trees.specs.Things.{ATree, AContext}
use Rattle.conditions.specs.Sides.{SideHolds}
use Rattle.recipes.specs.Derivations.{StatesAt}
use Rattle.book.specs.Contents.{Contents}
use Rattle.book.specs.declared.kernel.NodeId.{NodeId}
use Rattle.typing_rules.specs.Types.{sig_type, sig_type_statement}
use Rattle.typed_nodes.specs.Calls.{MayCall}
use Rattle.typed_nodes.specs.Typed.{Says}
use Rattle.typed_nodes.proofs.StandLaws.{may_call, given}
use Rattle.typed_nodes.proofs.forms.sigma_type.Goals as goal

call : (book : Contents) (domain codomain : NodeId) (H : Context) (A B : Tree)
    → StatesAt sig_type_statement (AContext H ∷ ATree A ∷ ATree B ∷ []) (sig_type trees H A B)
    → Says book domain (Ty H A) → Says book codomain (Ty (WithVar H A) B)
    → MayCall sig_type_statement book [] (domain.0 ∷ codomain.0 ∷ []) (AContext H ∷ ATree A ∷ ATree B ∷ [])
call book domain codomain H A B states is_domain is_codomain =
    may_call sig_type_statement book [] (domain.0 ∷ codomain.0 ∷ [])
    (AContext H ∷ ATree A ∷ ATree B ∷ []) (sig_type trees H A B)
    states refl tt (All-nil SideHolds) refl
    (is_domain, (is_codomain, tt))

pub derive-requires-clause-may : goal.derive-requires-clause-may
derive-requires-clause-may c =
    let (H, A, B, is_domain, is_codomain) = c.requires in
    let states = c.types_at_trees.ensures.sig_type H A B in
    (sig_type_statement, AContext H ∷ ATree A ∷ ATree B ∷ [], record { derives = c.types_are_derived.ensures.sig_type; first = refl }, call c.args.book.now c.args.domain c.args.codomain H A B states is_domain is_codomain)

pub returns-clause-typed : goal.returns-clause-typed
returns-clause-typed c = λ H A B is_domain is_codomain.
    let states = c.types_at_trees.ensures.sig_type H A B in
    let said = given c.derive.new.book (c.in_ok-derive.field-0.0 ∷ []) (c.in_ok-derive.ensures.gives sig_type_statement (record { derives = c.types_are_derived.ensures.sig_type; first = refl }))
    (call c.args.book.now c.args.domain c.args.codomain H A B states is_domain is_codomain) states in
    said.0
