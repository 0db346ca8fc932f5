use Rattle.std.proofs.Common.{◌≡◌, ◌≤◌, ◌^◌, ℕ, [], ◌∷◌, refl, Some, IsTrue}
use Rattle.std.proofs.lemmas.List.Elements.{All-nil, All-cons}
use Rattle.trees.specs.Judgements.{Context, trees}
use Rattle.trees.specs.Trees.{Tree, Subst}
use Rattle.trees.specs.Language.{Sb, IsFace}
use Rattle.trees.specs.Things.{ATree, ASubst, AContext}
use Rattle.conditions.specs.Sides.{SideHolds, is_face}
use Rattle.recipes.specs.Derivations.{StatesAt}
use Rattle.book.specs.Contents.{Contents}
use Rattle.book.specs.Shown.{book_means}
use Rattle.book.specs.declared.kernel.NodeId.{NodeId}
use Rattle.typed_nodes.specs.Calls.{MayCall}
use Rattle.typed_nodes.specs.Typed.{Says}
use Rattle.typed_nodes.proofs.CallLaws.{all_said}
use Rattle.typed_nodes.proofs.StandLaws.{may_call, given}
use Rattle.literal_types.specs.Faces.{past_face, past_face_statement}
use Rattle.literal_types.proofs.face_calls.past_face.Goals as goal

call : (book : Contents) (sub : NodeId) (face : ℕ) (H G : Context) (d : Subst) (p : Tree)
    → d.shift ≤ 2 ^ 48
    → StatesAt past_face_statement (ATree p ∷ AContext H ∷ ASubst d ∷ AContext G ∷ []) (past_face trees p H d G)
    → Says book sub (Sb H d G) → book_means book face ≡ Some (ATree p) → IsTrue (is_face H p)
    → MayCall past_face_statement book (face ∷ []) (sub.0 ∷ []) (ATree p ∷ AContext H ∷ ASubst d ∷ AContext G ∷ [])
call book sub face H G d p short states says means is =
    may_call past_face_statement book (face ∷ []) (sub.0 ∷ []) (ATree p ∷ AContext H ∷ ASubst d ∷ AContext G ∷ []) (past_face trees p H d G)
    states refl (short, tt) (All-cons SideHolds (IsFace H p) [] is (All-nil SideHolds)) (all_said (book_means book) (face ∷ []) (ATree p ∷ []) (means, tt)) (says, tt)

pub derive-requires-clause-may : goal.derive-requires-clause-may
derive-requires-clause-may c =
    let (H, G, d, p, says, means, is) = c.requires in (
      past_face_statement,
      ATree p ∷ AContext H ∷ ASubst d ∷ AContext G ∷ [],
      record { derives = c.faces_are_derived.ensures.past_face; first = refl },
      call c.args.book.now c.args.sub c.args.face H G d p (c.laws_of_shifts.ensures.shifts c.args.sub.0 H d G says) (c.faces_at_trees.ensures.past_face p H d G) says means is,
    )

pub returns-clause-typed : goal.returns-clause-typed
returns-clause-typed c = λ H G d p says means is.
    let states = c.faces_at_trees.ensures.past_face p H d G in
    (given c.derive.new.book (c.in_ok-derive.field-0.0 ∷ []) (c.in_ok-derive.ensures.gives past_face_statement (record { derives = c.faces_are_derived.ensures.past_face; first = refl }))
    (call c.args.book.now c.args.sub c.args.face H G d p (c.laws_of_shifts.ensures.shifts c.args.sub.0 H d G says) states says means is) states).0
