use Rattle.std.proofs.Common.{◌≤◌, ◌^◌, [], ◌∷◌, refl}
use Rattle.std.proofs.lemmas.List.Elements.{All-nil}
use Rattle.trees.specs.Judgements.{Context, trees}
use Rattle.trees.specs.Trees.{Tree, Subst}
use Rattle.trees.specs.Language.{Ty, Sb}
use Rattle.trees.specs.Things.{ATree, ASubst, AContext}
use Rattle.conditions.specs.Sides.{SideHolds}
use Rattle.recipes.specs.Derivations.{StatesAt}
use Rattle.book.specs.Contents.{Contents}
use Rattle.book.specs.declared.kernel.NodeId.{NodeId}
use Rattle.typing_rules.specs.Places.{under_variable, under_variable_statement}
use Rattle.typed_nodes.specs.Calls.{MayCall}
use Rattle.typed_nodes.specs.Typed.{Says}
use Rattle.typed_nodes.proofs.StandLaws.{may_call, given}
use Rattle.typed_nodes.proofs.substitutions.under_variable.Goals as goal

call : (book : Contents) (sub ty : NodeId) (H G : Context) (d : Subst) (A : Tree)
    → d.shift ≤ 2 ^ 48
    → StatesAt under_variable_statement (AContext H ∷ ASubst d ∷ AContext G ∷ ATree A ∷ []) (under_variable trees H d G A)
    → Says book sub (Sb H d G) → Says book ty (Ty G A)
    → MayCall under_variable_statement book [] (sub.0 ∷ ty.0 ∷ []) (AContext H ∷ ASubst d ∷ AContext G ∷ ATree A ∷ [])
call book sub ty H G d A short_sub states is_sub is_ty =
    may_call under_variable_statement book [] (sub.0 ∷ ty.0 ∷ [])
    (AContext H ∷ ASubst d ∷ AContext G ∷ ATree A ∷ []) (under_variable trees H d G A)
    states refl (short_sub, tt) (All-nil SideHolds) refl
    (is_sub, (is_ty, tt))

pub derive-requires-clause-may : goal.derive-requires-clause-may
derive-requires-clause-may c =
    let (H, G, d, A, is_sub, is_ty) = c.requires in
    let states = c.places_at_trees.ensures.under_variable H d G A in
    let short_sub = c.laws_of_shifts.ensures.shifts c.args.sub.0 H d G is_sub in
    (under_variable_statement, AContext H ∷ ASubst d ∷ AContext G ∷ ATree A ∷ [], record { derives = c.places_are_derived.ensures.under_variable; first = refl }, call c.args.book.now c.args.sub c.args.ty H G d A short_sub states is_sub is_ty)

pub returns-clause-typed : goal.returns-clause-typed
returns-clause-typed c = λ H G d A is_sub is_ty.
    let states = c.places_at_trees.ensures.under_variable H d G A in
    let short_sub = c.laws_of_shifts.ensures.shifts c.args.sub.0 H d G is_sub in
    let said = given c.derive.new.book (c.in_ok-derive.field-0.0 ∷ []) (c.in_ok-derive.ensures.gives under_variable_statement (record { derives = c.places_are_derived.ensures.under_variable; first = refl }))
    (call c.args.book.now c.args.sub c.args.ty H G d A short_sub states is_sub is_ty) states in
    said.0
