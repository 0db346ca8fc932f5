use Rattle.std.proofs.Common.{◌≤◌, ◌^◌, [], ◌∷◌, refl}
use Rattle.std.proofs.lemmas.List.Elements.{All-nil}
use Rattle.trees.specs.Judgements.{Context, trees}
use Rattle.trees.specs.Trees.{Tree, Subst, apply}
use Rattle.trees.specs.Language.{Ty, Tm, Sb}
use Rattle.trees.specs.Things.{ATree, ASubst, AContext}
use Rattle.conditions.specs.Sides.{SideHolds}
use Rattle.recipes.specs.Derivations.{StatesAt}
use Rattle.book.specs.Contents.{Contents}
use Rattle.book.specs.declared.kernel.NodeId.{NodeId}
use Rattle.typing_rules.specs.Places.{pushed, pushed_statement}
use Rattle.typed_nodes.specs.Calls.{MayCall}
use Rattle.typed_nodes.specs.Typed.{Says}
use Rattle.typed_nodes.proofs.StandLaws.{may_call, given}
use Rattle.typed_nodes.proofs.substitutions.pushed.Goals as goal

call : (book : Contents) (sub ty term : NodeId) (H G : Context) (d : Subst) (A a : Tree)
    → d.shift ≤ 2 ^ 48
    → StatesAt pushed_statement (AContext H ∷ ASubst d ∷ AContext G ∷ ATree A ∷ ATree a ∷ []) (pushed trees H d G A a)
    → Says book sub (Sb H d G) → Says book ty (Ty G A) → Says book term (Tm H a (apply A d))
    → MayCall pushed_statement book [] (sub.0 ∷ ty.0 ∷ term.0 ∷ []) (AContext H ∷ ASubst d ∷ AContext G ∷ ATree A ∷ ATree a ∷ [])
call book sub ty term H G d A a short_sub states is_sub is_ty is_term =
    may_call pushed_statement book [] (sub.0 ∷ ty.0 ∷ term.0 ∷ [])
    (AContext H ∷ ASubst d ∷ AContext G ∷ ATree A ∷ ATree a ∷ []) (pushed trees H d G A a)
    states refl (short_sub, tt) (All-nil SideHolds) refl
    (is_sub, (is_ty, (is_term, tt)))

pub derive-requires-clause-may : goal.derive-requires-clause-may
derive-requires-clause-may c =
    let (H, G, d, A, a, is_sub, is_ty, is_term) = c.requires in
    let states = c.places_at_trees.ensures.pushed H d G A a in
    let short_sub = c.laws_of_shifts.ensures.shifts c.args.sub.0 H d G is_sub in
    (pushed_statement, AContext H ∷ ASubst d ∷ AContext G ∷ ATree A ∷ ATree a ∷ [], record { derives = c.places_are_derived.ensures.pushed; first = refl }, call c.args.book.now c.args.sub c.args.ty c.args.term H G d A a short_sub states is_sub is_ty is_term)

pub returns-clause-typed : goal.returns-clause-typed
returns-clause-typed c = λ H G d A a is_sub is_ty is_term.
    let states = c.places_at_trees.ensures.pushed H d G A a in
    let short_sub = c.laws_of_shifts.ensures.shifts c.args.sub.0 H d G is_sub in
    let said = given c.derive.new.book (c.in_ok-derive.field-0.0 ∷ []) (c.in_ok-derive.ensures.gives pushed_statement (record { derives = c.places_are_derived.ensures.pushed; first = refl }))
    (call c.args.book.now c.args.sub c.args.ty c.args.term H G d A a short_sub states is_sub is_ty is_term) states in
    said.0
