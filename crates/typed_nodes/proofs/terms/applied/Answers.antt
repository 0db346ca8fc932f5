use Rattle.std.proofs.Common.{◌≤◌, ◌^◌, [], ◌∷◌, refl}
use Rattle.std.proofs.lemmas.List.Elements.{All-nil}
use Rattle.trees.specs.Judgements.{Context, WithVar, trees}
use Rattle.trees.specs.Trees.{Tree, push}
use Rattle.trees.specs.Language.{Ty, Tm}
use Rattle.trees.specs.Things.{ATree, ASubst, AContext}
use Rattle.conditions.specs.Sides.{SideHolds}
use Rattle.recipes.specs.Derivations.{StatesAt}
use Rattle.rules.specs.Table.{app, at, pi}
use Rattle.book.specs.Contents.{Contents}
use Rattle.book.specs.declared.kernel.NodeId.{NodeId}
use Rattle.typing_rules.specs.Terms.{applied, applied_statement}
use Rattle.typed_nodes.specs.declared.types.Family.{Family}
use Rattle.typed_nodes.specs.Calls.{MayCall}
use Rattle.typed_nodes.specs.Typed.{Says, IsFamily}
use Rattle.typed_nodes.proofs.HomeLaws.{retyped, typed_at, pi_at_home, codomain_at}
use Rattle.typed_nodes.proofs.StandLaws.{may_call, given}
use Rattle.typed_nodes.proofs.terms.applied.Goals as goal

call : (book : Contents) (family : Family) (function argument : NodeId) (H : Context) (A B f a : Tree) (is : IsFamily book family H A B)
    → is.sub.shift ≤ 2 ^ 48
    → StatesAt applied_statement (AContext H ∷ ASubst is.sub ∷ AContext is.home ∷ ATree is.domain ∷ ATree is.codomain ∷ ATree f ∷ ATree a ∷ []) (applied trees H is.sub is.home is.domain is.codomain f a)
    → Says book function (Tm H f (pi trees A B)) → Says book argument (Tm H a A)
    → MayCall applied_statement book [] (family.sub.0 ∷ family.domain.0 ∷ family.codomain.0 ∷ function.0 ∷ argument.0 ∷ []) (AContext H ∷ ASubst is.sub ∷ AContext is.home ∷ ATree is.domain ∷ ATree is.codomain ∷ ATree f ∷ ATree a ∷ [])
call book family function argument H A B f a is short states says at_A =
    may_call applied_statement book [] (family.sub.0 ∷ family.domain.0 ∷ family.codomain.0 ∷ function.0 ∷ argument.0 ∷ [])
    (AContext H ∷ ASubst is.sub ∷ AContext is.home ∷ ATree is.domain ∷ ATree is.codomain ∷ ATree f ∷ ATree a ∷ []) (applied trees H is.sub is.home is.domain is.codomain f a)
    states refl (short, tt) (All-nil SideHolds) refl
    (is.sub_is, (is.domain_is, (is.codomain_is, (retyped H f (pi_at_home is) says, (retyped H a is.left at_A, tt)))))

pub derive_two-requires-clause-may : goal.derive_two-requires-clause-may
derive_two-requires-clause-may c =
    let (H, A, B, f, a, is, says, at_A) = c.requires in
    let states = c.terms_at_trees.ensures.applied H is.sub is.home is.domain is.codomain f a in
    let short = c.laws_of_shifts.ensures.shifts c.args.family.sub.0 H is.sub is.home is.sub_is in
    (applied_statement, AContext H ∷ ASubst is.sub ∷ AContext is.home ∷ ATree is.domain ∷ ATree is.codomain ∷ ATree f ∷ ATree a ∷ [], record { derives = c.terms_are_derived.ensures.applied; first = refl }, call c.args.book.now c.args.family c.args.function c.args.argument H A B f a is short states says at_A)

pub returns-clause-typed : goal.returns-clause-typed
returns-clause-typed c = λ H A B f a is says at_A.
    let states = c.terms_at_trees.ensures.applied H is.sub is.home is.domain is.codomain f a in
    let short = c.laws_of_shifts.ensures.shifts c.args.family.sub.0 H is.sub is.home is.sub_is in
    let said = given c.derive_two.new.book (c.in_ok-term.term.0 ∷ c.in_ok-term.sub.0 ∷ []) (c.in_ok-term.ensures.gives applied_statement (record { derives = c.terms_are_derived.ensures.applied; first = refl }))
    (call c.args.book.now c.args.family c.args.function c.args.argument H A B f a is short states says at_A) states in
    typed_at c.in_ok-term.term c.args.family.codomain c.in_ok-term.sub H (app trees f a) (at trees B a) (WithVar is.home is.domain) is.codomain (push is.sub a)
    (codomain_at is a) said.0
    (c.in_ok-term.ensures.extends.conclusions c.args.family.codomain.0 (Ty (WithVar is.home is.domain) is.codomain) is.codomain_is) said.1.0
