use Rattle.std.proofs.Common.{◌≤◌, ◌^◌, [], ◌∷◌, refl}
use Rattle.std.proofs.lemmas.List.Elements.{All-nil}
use Rattle.trees.specs.Judgements.{Context, trees}
use Rattle.trees.specs.Trees.{Tree, Subst}
use Rattle.trees.specs.Language.{Sb, TyEq}
use Rattle.trees.specs.Things.{ATree, ASubst, AContext}
use Rattle.conditions.specs.Sides.{SideHolds}
use Rattle.recipes.specs.Derivations.{StatesAt}
use Rattle.book.specs.Contents.{Contents}
use Rattle.book.specs.declared.kernel.NodeId.{NodeId}
use Rattle.typed_nodes.specs.Calls.{MayCall}
use Rattle.typed_nodes.specs.Typed.{Says}
use Rattle.typed_nodes.proofs.StandLaws.{may_call, given}
use Rattle.literal_terms.specs.Equations.{equation_instance, equation_instance_statement}
use Rattle.literal_terms.proofs.equations.equation_under.Goals as goal

call : (book : Contents) (sub equation : NodeId) (H G : Context) (d : Subst) (A B : Tree)
    → d.shift ≤ 2 ^ 48
    → StatesAt equation_instance_statement (AContext H ∷ ASubst d ∷ AContext G ∷ ATree A ∷ ATree B ∷ []) (equation_instance trees H d G A B)
    → Says book sub (Sb H d G) → Says book equation (TyEq G A B)
    → MayCall equation_instance_statement book [] (sub.0 ∷ equation.0 ∷ []) (AContext H ∷ ASubst d ∷ AContext G ∷ ATree A ∷ ATree B ∷ [])
call book sub equation H G d A B short states is_sub is_equation =
    may_call equation_instance_statement book [] (sub.0 ∷ equation.0 ∷ [])
    (AContext H ∷ ASubst d ∷ AContext G ∷ ATree A ∷ ATree B ∷ []) (equation_instance trees H d G A B)
    states refl (short, tt) (All-nil SideHolds) refl
    (is_sub, (is_equation, tt))

pub derive-requires-clause-may : goal.derive-requires-clause-may
derive-requires-clause-may c =
    let (H, G, d, A, B, is_sub, is_equation) = c.requires in (
      equation_instance_statement,
      AContext H ∷ ASubst d ∷ AContext G ∷ ATree A ∷ ATree B ∷ [],
      record { derives = c.equations_are_derived.ensures.instance; first = refl },
      call c.args.book.now c.args.sub c.args.equation H G d A B (c.laws_of_shifts.ensures.shifts c.args.sub.0 H d G is_sub) (c.equations_at_trees.ensures.instance H d G A B) is_sub is_equation,
    )

pub returns-clause-typed : goal.returns-clause-typed
returns-clause-typed c = λ H G d A B is_sub is_equation.
    let states = c.equations_at_trees.ensures.instance H d G A B in
    (given c.derive.new.book (c.in_ok-derive.field-0.0 ∷ []) (c.in_ok-derive.ensures.gives equation_instance_statement (record { derives = c.equations_are_derived.ensures.instance; first = refl }))
    (call c.args.book.now c.args.sub c.args.equation H G d A B (c.laws_of_shifts.ensures.shifts c.args.sub.0 H d G is_sub) states is_sub is_equation) states).0
