use Rattle.std.proofs.Common.{◌≤◌, ◌^◌, [], ◌∷◌, refl}
use Rattle.std.proofs.lemmas.List.Elements.{All-nil}
use Rattle.trees.specs.Judgements.{Context, trees}
use Rattle.trees.specs.Trees.{Subst}
use Rattle.trees.specs.Language.{Sb}
use Rattle.trees.specs.Things.{ASubst, AContext}
use Rattle.conditions.specs.Sides.{SideHolds}
use Rattle.recipes.specs.Derivations.{StatesAt}
use Rattle.book.specs.Contents.{Contents}
use Rattle.book.specs.declared.kernel.NodeId.{NodeId}
use Rattle.typing_rules.specs.Places.{composed, composed_statement}
use Rattle.typed_nodes.specs.Calls.{MayCall}
use Rattle.typed_nodes.specs.Typed.{Says}
use Rattle.typed_nodes.proofs.StandLaws.{may_call, given}
use Rattle.typed_nodes.proofs.substitutions.composed.Goals as goal

call : (book : Contents) (inner outer : NodeId) (K H G : Context) (e d : Subst)
    → e.shift ≤ 2 ^ 48
    → d.shift ≤ 2 ^ 48
    → StatesAt composed_statement (AContext K ∷ ASubst e ∷ AContext H ∷ ASubst d ∷ AContext G ∷ []) (composed trees K e H d G)
    → Says book inner (Sb K e H) → Says book outer (Sb H d G)
    → MayCall composed_statement book [] (inner.0 ∷ outer.0 ∷ []) (AContext K ∷ ASubst e ∷ AContext H ∷ ASubst d ∷ AContext G ∷ [])
call book inner outer K H G e d short_inner short_outer states is_inner is_outer =
    may_call composed_statement book [] (inner.0 ∷ outer.0 ∷ [])
    (AContext K ∷ ASubst e ∷ AContext H ∷ ASubst d ∷ AContext G ∷ []) (composed trees K e H d G)
    states refl (short_inner, (short_outer, tt)) (All-nil SideHolds) refl
    (is_inner, (is_outer, tt))

pub derive-requires-clause-may : goal.derive-requires-clause-may
derive-requires-clause-may c =
    let (K, H, G, e, d, is_inner, is_outer) = c.requires in
    let states = c.places_at_trees.ensures.composed K e H d G in
    let short_inner = c.laws_of_shifts.ensures.shifts c.args.inner.0 K e H is_inner in
    let short_outer = c.laws_of_shifts.ensures.shifts c.args.outer.0 H d G is_outer in
    (composed_statement, AContext K ∷ ASubst e ∷ AContext H ∷ ASubst d ∷ AContext G ∷ [], record { derives = c.places_are_derived.ensures.composed; first = refl }, call c.args.book.now c.args.inner c.args.outer K H G e d short_inner short_outer states is_inner is_outer)

pub returns-clause-typed : goal.returns-clause-typed
returns-clause-typed c = λ K H G e d is_inner is_outer.
    let states = c.places_at_trees.ensures.composed K e H d G in
    let short_inner = c.laws_of_shifts.ensures.shifts c.args.inner.0 K e H is_inner in
    let short_outer = c.laws_of_shifts.ensures.shifts c.args.outer.0 H d G is_outer in
    let said = given c.derive.new.book (c.in_ok-derive.field-0.0 ∷ []) (c.in_ok-derive.ensures.gives composed_statement (record { derives = c.places_are_derived.ensures.composed; first = refl }))
    (call c.args.book.now c.args.inner c.args.outer K H G e d short_inner short_outer states is_inner is_outer) states in
    said.0
