use Rattle.std.proofs.Common.{◌≤◌, ◌^◌, [], ◌∷◌, refl}
use Rattle.std.proofs.lemmas.List.Elements.{All-nil}
use Rattle.trees.specs.Judgements.{Context, WithVar, trees}
use Rattle.trees.specs.Trees.{Tree, push}
use Rattle.trees.specs.Language.{Ty, Tm}
use Rattle.trees.specs.Things.{ATree, ASubst, AContext}
use Rattle.conditions.specs.Sides.{SideHolds}
use Rattle.recipes.specs.Derivations.{StatesAt}
use Rattle.rules.specs.Table.{at, fst, sig, snd}
use Rattle.book.specs.Contents.{Contents}
use Rattle.book.specs.declared.kernel.NodeId.{NodeId}
use Rattle.typing_rules.specs.Terms.{second, second_statement}
use Rattle.typed_nodes.specs.declared.types.Family.{Family}
use Rattle.typed_nodes.specs.Calls.{MayCall}
use Rattle.typed_nodes.specs.Typed.{Says, IsFamily}
use Rattle.typed_nodes.proofs.HomeLaws.{retyped, typed_at, sig_at_home, codomain_at}
use Rattle.typed_nodes.proofs.StandLaws.{may_call, given}
use Rattle.typed_nodes.proofs.terms.second.Goals as goal

call : (book : Contents) (family : Family) (pair : NodeId) (H : Context) (A B p : Tree) (is : IsFamily book family H A B)
    → is.sub.shift ≤ 2 ^ 48
    → StatesAt second_statement (AContext H ∷ ASubst is.sub ∷ AContext is.home ∷ ATree is.domain ∷ ATree is.codomain ∷ ATree p ∷ []) (second trees H is.sub is.home is.domain is.codomain p)
    → Says book pair (Tm H p (sig trees A B))
    → MayCall second_statement book [] (family.sub.0 ∷ family.domain.0 ∷ family.codomain.0 ∷ pair.0 ∷ []) (AContext H ∷ ASubst is.sub ∷ AContext is.home ∷ ATree is.domain ∷ ATree is.codomain ∷ ATree p ∷ [])
call book family pair H A B p is short states says =
    may_call second_statement book [] (family.sub.0 ∷ family.domain.0 ∷ family.codomain.0 ∷ pair.0 ∷ [])
    (AContext H ∷ ASubst is.sub ∷ AContext is.home ∷ ATree is.domain ∷ ATree is.codomain ∷ ATree p ∷ []) (second trees H is.sub is.home is.domain is.codomain p)
    states refl (short, tt) (All-nil SideHolds) refl
    (is.sub_is, (is.domain_is, (is.codomain_is, (retyped H p (sig_at_home is) says, tt))))

pub derive_two-requires-clause-may : goal.derive_two-requires-clause-may
derive_two-requires-clause-may c =
    let (H, A, B, p, is, says) = c.requires in
    let states = c.terms_at_trees.ensures.second H is.sub is.home is.domain is.codomain p in
    let short = c.laws_of_shifts.ensures.shifts c.args.family.sub.0 H is.sub is.home is.sub_is in
    (second_statement, AContext H ∷ ASubst is.sub ∷ AContext is.home ∷ ATree is.domain ∷ ATree is.codomain ∷ ATree p ∷ [], record { derives = c.terms_are_derived.ensures.second; first = refl }, call c.args.book.now c.args.family c.args.pair H A B p is short states says)

pub returns-clause-typed : goal.returns-clause-typed
returns-clause-typed c = λ H A B p is says.
    let states = c.terms_at_trees.ensures.second H is.sub is.home is.domain is.codomain p in
    let short = c.laws_of_shifts.ensures.shifts c.args.family.sub.0 H is.sub is.home is.sub_is in
    let said = given c.derive_two.new.book (c.in_ok-term.term.0 ∷ c.in_ok-term.sub.0 ∷ []) (c.in_ok-term.ensures.gives second_statement (record { derives = c.terms_are_derived.ensures.second; first = refl }))
    (call c.args.book.now c.args.family c.args.pair H A B p is short states says) states in
    typed_at c.in_ok-term.term c.args.family.codomain c.in_ok-term.sub H (snd trees p) (at trees B (fst trees p)) (WithVar is.home is.domain) is.codomain (push is.sub (fst trees p))
    (codomain_at is (fst trees p)) said.0
    (c.in_ok-term.ensures.extends.conclusions c.args.family.codomain.0 (Ty (WithVar is.home is.domain) is.codomain) is.codomain_is) said.1.0
