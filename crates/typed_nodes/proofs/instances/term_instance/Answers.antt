use Rattle.std.proofs.Common.{◌≤◌, ◌^◌, [], ◌∷◌, refl}
use Rattle.std.proofs.lemmas.List.Elements.{All-nil}
use Rattle.trees.specs.Judgements.{Context, trees}
use Rattle.trees.specs.Trees.{Tree, Subst}
use Rattle.trees.specs.Language.{Tm, Sb}
use Rattle.trees.specs.Things.{ATree, ASubst, AContext}
use Rattle.conditions.specs.Sides.{SideHolds}
use Rattle.recipes.specs.Derivations.{StatesAt}
use Rattle.book.specs.Contents.{Contents}
use Rattle.book.specs.declared.kernel.NodeId.{NodeId}
use Rattle.typing_rules.specs.Places.{term_instance, term_instance_statement}
use Rattle.typed_nodes.specs.Calls.{MayCall}
use Rattle.typed_nodes.specs.Typed.{Says}
use Rattle.typed_nodes.proofs.StandLaws.{may_call, given}
use Rattle.typed_nodes.proofs.instances.term_instance.Goals as goal

call : (book : Contents) (sub term : NodeId) (H G : Context) (d : Subst) (a A : Tree)
    → d.shift ≤ 2 ^ 48
    → StatesAt term_instance_statement (AContext H ∷ ASubst d ∷ AContext G ∷ ATree a ∷ ATree A ∷ []) (term_instance trees H d G a A)
    → Says book sub (Sb H d G) → Says book term (Tm G a A)
    → MayCall term_instance_statement book [] (sub.0 ∷ term.0 ∷ []) (AContext H ∷ ASubst d ∷ AContext G ∷ ATree a ∷ ATree A ∷ [])
call book sub term H G d a A short_sub states is_sub is_term =
    may_call term_instance_statement book [] (sub.0 ∷ term.0 ∷ [])
    (AContext H ∷ ASubst d ∷ AContext G ∷ ATree a ∷ ATree A ∷ []) (term_instance trees H d G a A)
    states refl (short_sub, tt) (All-nil SideHolds) refl
    (is_sub, (is_term, tt))

pub derive-requires-clause-may : goal.derive-requires-clause-may
derive-requires-clause-may c =
    let (H, G, d, a, A, is_sub, is_term) = c.requires in
    let states = c.places_at_trees.ensures.term_instance H d G a A in
    let short_sub = c.laws_of_shifts.ensures.shifts c.args.sub.0 H d G is_sub in
    (term_instance_statement, AContext H ∷ ASubst d ∷ AContext G ∷ ATree a ∷ ATree A ∷ [], record { derives = c.places_are_derived.ensures.term_instance; first = refl }, call c.args.book.now c.args.sub c.args.term H G d a A short_sub states is_sub is_term)

pub returns-clause-typed : goal.returns-clause-typed
returns-clause-typed c = λ H G d a A is_sub is_term.
    let states = c.places_at_trees.ensures.term_instance H d G a A in
    let short_sub = c.laws_of_shifts.ensures.shifts c.args.sub.0 H d G is_sub in
    let said = given c.derive.new.book (c.in_ok-derive.field-0.0 ∷ []) (c.in_ok-derive.ensures.gives term_instance_statement (record { derives = c.places_are_derived.ensures.term_instance; first = refl }))
    (call c.args.book.now c.args.sub c.args.term H G d a A short_sub states is_sub is_term) states in
    said.0
