use Rattle.std.proofs.Common.{◌≤◌, ◌^◌, [], ◌∷◌, refl}
use Rattle.std.proofs.lemmas.List.Elements.{All-nil}
use Rattle.trees.specs.Judgements.{Context, trees}
use Rattle.trees.specs.Trees.{Subst}
use Rattle.trees.specs.Language.{Sb}
use Rattle.trees.specs.Things.{ASubst, AContext}
use Rattle.conditions.specs.Sides.{SideHolds}
use Rattle.recipes.specs.Derivations.{StatesAt}
use Rattle.book.specs.Contents.{Contents}
use Rattle.book.specs.declared.kernel.NodeId.{NodeId}
use Rattle.typing_rules.specs.Places.{under_name, under_name_statement}
use Rattle.typed_nodes.specs.Calls.{MayCall}
use Rattle.typed_nodes.specs.Typed.{Says}
use Rattle.typed_nodes.proofs.StandLaws.{may_call, given}
use Rattle.typed_nodes.proofs.substitutions.under_name.Goals as goal

call : (book : Contents) (sub : NodeId) (H G : Context) (d : Subst)
    → d.shift ≤ 2 ^ 48
    → StatesAt under_name_statement (AContext H ∷ ASubst d ∷ AContext G ∷ []) (under_name trees H d G)
    → Says book sub (Sb H d G)
    → MayCall under_name_statement book [] (sub.0 ∷ []) (AContext H ∷ ASubst d ∷ AContext G ∷ [])
call book sub H G d short_sub states is_sub =
    may_call under_name_statement book [] (sub.0 ∷ [])
    (AContext H ∷ ASubst d ∷ AContext G ∷ []) (under_name trees H d G)
    states refl (short_sub, tt) (All-nil SideHolds) refl
    (is_sub, tt)

pub derive-requires-clause-may : goal.derive-requires-clause-may
derive-requires-clause-may c =
    let (H, G, d, is_sub) = c.requires in
    let states = c.places_at_trees.ensures.under_name H d G in
    let short_sub = c.laws_of_shifts.ensures.shifts c.args.sub.0 H d G is_sub in
    (under_name_statement, AContext H ∷ ASubst d ∷ AContext G ∷ [], record { derives = c.places_are_derived.ensures.under_name; first = refl }, call c.args.book.now c.args.sub H G d short_sub states is_sub)

pub returns-clause-typed : goal.returns-clause-typed
returns-clause-typed c = λ H G d is_sub.
    let states = c.places_at_trees.ensures.under_name H d G in
    let short_sub = c.laws_of_shifts.ensures.shifts c.args.sub.0 H d G is_sub in
    let said = given c.derive.new.book (c.in_ok-derive.field-0.0 ∷ []) (c.in_ok-derive.ensures.gives under_name_statement (record { derives = c.places_are_derived.ensures.under_name; first = refl }))
    (call c.args.book.now c.args.sub H G d short_sub states is_sub) states in
    said.0
