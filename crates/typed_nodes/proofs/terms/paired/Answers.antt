use Rattle.std.proofs.Common.{◌≤◌, ◌^◌, [], ◌∷◌, refl, sym}
use Rattle.std.proofs.lemmas.List.Elements.{All-nil}
use Rattle.trees.specs.Judgements.{Context, trees}
use Rattle.trees.specs.Trees.{Tree}
use Rattle.trees.specs.Language.{Tm}
use Rattle.trees.specs.Things.{ATree, ASubst, AContext}
use Rattle.conditions.specs.Sides.{SideHolds}
use Rattle.recipes.specs.Derivations.{StatesAt}
use Rattle.rules.specs.Table.{at, pair}
use Rattle.book.specs.Contents.{Contents}
use Rattle.book.specs.declared.kernel.NodeId.{NodeId}
use Rattle.typing_rules.specs.Terms.{pair_term, pair_term_statement}
use Rattle.typed_nodes.specs.declared.types.Family.{Family}
use Rattle.typed_nodes.specs.Calls.{MayCall}
use Rattle.typed_nodes.specs.Typed.{Says, IsFamily}
use Rattle.typed_nodes.proofs.HomeLaws.{retyped, sig_at_home, codomain_at}
use Rattle.typed_nodes.proofs.StandLaws.{may_call, given}
use Rattle.typed_nodes.proofs.terms.paired.Goals as goal

call : (book : Contents) (family : Family) (first second : NodeId) (H : Context) (A B a b : Tree) (is : IsFamily book family H A B)
    → is.sub.shift ≤ 2 ^ 48
    → StatesAt pair_term_statement (AContext H ∷ ASubst is.sub ∷ AContext is.home ∷ ATree is.domain ∷ ATree is.codomain ∷ ATree a ∷ ATree b ∷ []) (pair_term trees H is.sub is.home is.domain is.codomain a b)
    → Says book first (Tm H a A) → Says book second (Tm H b (at trees B a))
    → MayCall pair_term_statement book [] (family.sub.0 ∷ family.domain.0 ∷ family.codomain.0 ∷ first.0 ∷ second.0 ∷ []) (AContext H ∷ ASubst is.sub ∷ AContext is.home ∷ ATree is.domain ∷ ATree is.codomain ∷ ATree a ∷ ATree b ∷ [])
call book family first second H A B a b is short states at_A at_B =
    may_call pair_term_statement book [] (family.sub.0 ∷ family.domain.0 ∷ family.codomain.0 ∷ first.0 ∷ second.0 ∷ [])
    (AContext H ∷ ASubst is.sub ∷ AContext is.home ∷ ATree is.domain ∷ ATree is.codomain ∷ ATree a ∷ ATree b ∷ []) (pair_term trees H is.sub is.home is.domain is.codomain a b)
    states refl (short, tt) (All-nil SideHolds) refl
    (is.sub_is, (is.domain_is, (is.codomain_is, (retyped H a is.left at_A, (retyped H b (codomain_at is a) at_B, tt)))))

pub derive-requires-clause-may : goal.derive-requires-clause-may
derive-requires-clause-may c =
    let (H, A, B, a, b, is, at_A, at_B) = c.requires in
    let states = c.terms_at_trees.ensures.pair_term H is.sub is.home is.domain is.codomain a b in
    let short = c.laws_of_shifts.ensures.shifts c.args.family.sub.0 H is.sub is.home is.sub_is in
    (pair_term_statement, AContext H ∷ ASubst is.sub ∷ AContext is.home ∷ ATree is.domain ∷ ATree is.codomain ∷ ATree a ∷ ATree b ∷ [], record { derives = c.terms_are_derived.ensures.pair_term; first = refl }, call c.args.book.now c.args.family c.args.first c.args.second H A B a b is short states at_A at_B)

pub returns-clause-typed : goal.returns-clause-typed
returns-clause-typed c = λ H A B a b is at_A at_B.
    let states = c.terms_at_trees.ensures.pair_term H is.sub is.home is.domain is.codomain a b in
    let short = c.laws_of_shifts.ensures.shifts c.args.family.sub.0 H is.sub is.home is.sub_is in
    let said = given c.derive.new.book (c.in_ok-derive.field-0.0 ∷ []) (c.in_ok-derive.ensures.gives pair_term_statement (record { derives = c.terms_are_derived.ensures.pair_term; first = refl }))
    (call c.args.book.now c.args.family c.args.first c.args.second H A B a b is short states at_A at_B) states in
    retyped H (pair trees a b) (sym (sig_at_home is)) said.0
