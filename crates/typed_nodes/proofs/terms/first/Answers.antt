use Rattle.std.proofs.Common.{◌≤◌, ◌^◌, [], ◌∷◌, refl}
use Rattle.std.proofs.lemmas.List.Elements.{All-nil}
use Rattle.trees.specs.Judgements.{Context, trees}
use Rattle.trees.specs.Trees.{Tree}
use Rattle.trees.specs.Language.{Ty, Tm, Sb}
use Rattle.trees.specs.Things.{ATree, ASubst, AContext}
use Rattle.conditions.specs.Sides.{SideHolds}
use Rattle.recipes.specs.Derivations.{StatesAt}
use Rattle.rules.specs.Table.{fst, sig}
use Rattle.book.specs.Contents.{Contents}
use Rattle.book.specs.declared.kernel.NodeId.{NodeId}
use Rattle.typing_rules.specs.Terms.{first, first_statement}
use Rattle.typed_nodes.specs.declared.types.Family.{Family}
use Rattle.typed_nodes.specs.Calls.{MayCall}
use Rattle.typed_nodes.specs.Typed.{Says, IsFamily}
use Rattle.typed_nodes.proofs.HomeLaws.{retyped, typed_at, sig_at_home}
use Rattle.typed_nodes.proofs.StandLaws.{may_call, given}
use Rattle.typed_nodes.proofs.terms.first.Goals as goal

call : (book : Contents) (family : Family) (pair : NodeId) (H : Context) (A B p : Tree) (is : IsFamily book family H A B)
    → is.sub.shift ≤ 2 ^ 48
    → StatesAt first_statement (AContext H ∷ ASubst is.sub ∷ AContext is.home ∷ ATree is.domain ∷ ATree is.codomain ∷ ATree p ∷ []) (first trees H is.sub is.home is.domain is.codomain p)
    → Says book pair (Tm H p (sig trees A B))
    → MayCall first_statement book [] (family.sub.0 ∷ family.domain.0 ∷ family.codomain.0 ∷ pair.0 ∷ []) (AContext H ∷ ASubst is.sub ∷ AContext is.home ∷ ATree is.domain ∷ ATree is.codomain ∷ ATree p ∷ [])
call book family pair H A B p is short states says =
    may_call first_statement book [] (family.sub.0 ∷ family.domain.0 ∷ family.codomain.0 ∷ pair.0 ∷ [])
    (AContext H ∷ ASubst is.sub ∷ AContext is.home ∷ ATree is.domain ∷ ATree is.codomain ∷ ATree p ∷ []) (first trees H is.sub is.home is.domain is.codomain p)
    states refl (short, tt) (All-nil SideHolds) refl
    (is.sub_is, (is.domain_is, (is.codomain_is, (retyped H p (sig_at_home is) says, tt))))

pub derive-requires-clause-may : goal.derive-requires-clause-may
derive-requires-clause-may c =
    let (H, A, B, p, is, says) = c.requires in
    let states = c.terms_at_trees.ensures.first H is.sub is.home is.domain is.codomain p in
    let short = c.laws_of_shifts.ensures.shifts c.args.family.sub.0 H is.sub is.home is.sub_is in
    (first_statement, AContext H ∷ ASubst is.sub ∷ AContext is.home ∷ ATree is.domain ∷ ATree is.codomain ∷ ATree p ∷ [], record { derives = c.terms_are_derived.ensures.first; first = refl }, call c.args.book.now c.args.family c.args.pair H A B p is short states says)

pub returns-clause-typed : goal.returns-clause-typed
returns-clause-typed c = λ H A B p is says.
    let states = c.terms_at_trees.ensures.first H is.sub is.home is.domain is.codomain p in
    let short = c.laws_of_shifts.ensures.shifts c.args.family.sub.0 H is.sub is.home is.sub_is in
    let said = given c.derive.new.book (c.in_ok-term.term.0 ∷ []) (c.in_ok-term.ensures.gives first_statement (record { derives = c.terms_are_derived.ensures.first; first = refl }))
    (call c.args.book.now c.args.family c.args.pair H A B p is short states says) states in
    typed_at c.in_ok-term.term c.args.family.domain c.args.family.sub H (fst trees p) A is.home is.domain is.sub
    is.left said.0
    (c.in_ok-term.ensures.extends.conclusions c.args.family.domain.0 (Ty is.home is.domain) is.domain_is)
    (c.in_ok-term.ensures.extends.conclusions c.args.family.sub.0 (Sb H is.sub is.home) is.sub_is)
