use Rattle.std.proofs.Common.{[], ◌∷◌, refl}
use Rattle.std.proofs.lemmas.List.Elements.{All-nil}
use Rattle.trees.specs.Judgements.{Context, trees}
use Rattle.trees.specs.Trees.{Tree}
use Rattle.trees.specs.Language.{TyEq}
use Rattle.trees.specs.Things.{ATree, AContext}
use Rattle.conditions.specs.Sides.{SideHolds}
use Rattle.recipes.specs.Derivations.{StatesAt}
use Rattle.book.specs.Contents.{Contents}
use Rattle.book.specs.declared.kernel.NodeId.{NodeId}
use Rattle.typed_nodes.specs.Calls.{MayCall}
use Rattle.typed_nodes.specs.Typed.{Says}
use Rattle.typed_nodes.proofs.StandLaws.{may_call, given}
use Rattle.literal_terms.specs.Equations.{equations_joined, equations_joined_statement}
use Rattle.literal_terms.proofs.equations.joined_equations.Goals as goal

call : (book : Contents) (first second : NodeId) (G : Context) (A B C : Tree)
    → StatesAt equations_joined_statement (AContext G ∷ ATree A ∷ ATree B ∷ ATree C ∷ []) (equations_joined trees G A B C)
    → Says book first (TyEq G A B) → Says book second (TyEq G B C)
    → MayCall equations_joined_statement book [] (first.0 ∷ second.0 ∷ []) (AContext G ∷ ATree A ∷ ATree B ∷ ATree C ∷ [])
call book first second G A B C states is_first is_second =
    may_call equations_joined_statement book [] (first.0 ∷ second.0 ∷ [])
    (AContext G ∷ ATree A ∷ ATree B ∷ ATree C ∷ []) (equations_joined trees G A B C)
    states refl tt (All-nil SideHolds) refl
    (is_first, (is_second, tt))

pub derive-requires-clause-may : goal.derive-requires-clause-may
derive-requires-clause-may c =
    let (G, A, B, C, is_first, is_second) = c.requires in (
      equations_joined_statement,
      AContext G ∷ ATree A ∷ ATree B ∷ ATree C ∷ [],
      record { derives = c.equations_are_derived.ensures.joined; first = refl },
      call c.args.book.now c.args.first c.args.second G A B C (c.equations_at_trees.ensures.joined G A B C) is_first is_second,
    )

pub returns-clause-typed : goal.returns-clause-typed
returns-clause-typed c = λ G A B C is_first is_second.
    let states = c.equations_at_trees.ensures.joined G A B C in
    (given c.derive.new.book (c.in_ok-derive.field-0.0 ∷ []) (c.in_ok-derive.ensures.gives equations_joined_statement (record { derives = c.equations_are_derived.ensures.joined; first = refl }))
    (call c.args.book.now c.args.first c.args.second G A B C states is_first is_second) states).0
