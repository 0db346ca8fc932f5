use Rattle.std.proofs.Common.{◌≡◌, ℕ, [], ◌∷◌, refl, Some, IsTrue}
use Rattle.std.proofs.lemmas.List.Elements.{All-nil, All-cons}
use Rattle.trees.specs.Judgements.{Context, trees}
use Rattle.trees.specs.Trees.{Tree}
use Rattle.trees.specs.Language.{Ctx, IsFace}
use Rattle.trees.specs.Things.{ATree, AContext}
use Rattle.conditions.specs.Sides.{SideHolds, is_face}
use Rattle.recipes.specs.Derivations.{StatesAt}
use Rattle.book.specs.Contents.{Contents}
use Rattle.book.specs.Shown.{book_means}
use Rattle.book.specs.declared.kernel.NodeId.{NodeId}
use Rattle.typed_nodes.specs.Calls.{MayCall}
use Rattle.typed_nodes.specs.Typed.{Says}
use Rattle.typed_nodes.proofs.CallLaws.{all_said}
use Rattle.typed_nodes.proofs.StandLaws.{may_call, given}
use Rattle.literal_types.specs.Faces.{with_face, with_face_statement}
use Rattle.literal_types.proofs.face_calls.with_face.Goals as goal

call : (book : Contents) (ctx : NodeId) (face : ℕ) (H : Context) (p : Tree)
    → StatesAt with_face_statement (ATree p ∷ AContext H ∷ []) (with_face trees p H)
    → Says book ctx (Ctx H) → book_means book face ≡ Some (ATree p) → IsTrue (is_face H p)
    → MayCall with_face_statement book (face ∷ []) (ctx.0 ∷ []) (ATree p ∷ AContext H ∷ [])
call book ctx face H p states says means is =
    may_call with_face_statement book (face ∷ []) (ctx.0 ∷ []) (ATree p ∷ AContext H ∷ []) (with_face trees p H)
    states refl tt (All-cons SideHolds (IsFace H p) [] is (All-nil SideHolds)) (all_said (book_means book) (face ∷ []) (ATree p ∷ []) (means, tt)) (says, tt)

pub derive-requires-clause-may : goal.derive-requires-clause-may
derive-requires-clause-may c =
    let (H, p, says, means, is) = c.requires in
    (with_face_statement, ATree p ∷ AContext H ∷ [], record { derives = c.faces_are_derived.ensures.with_face; first = refl }, call c.args.book.now c.args.ctx c.args.face H p (c.faces_at_trees.ensures.with_face p H) says means is)

pub returns-clause-typed : goal.returns-clause-typed
returns-clause-typed c = λ H p says means is.
    let states = c.faces_at_trees.ensures.with_face p H in
    (given c.derive.new.book (c.in_ok-derive.field-0.0 ∷ []) (c.in_ok-derive.ensures.gives with_face_statement (record { derives = c.faces_are_derived.ensures.with_face; first = refl }))
    (call c.args.book.now c.args.ctx c.args.face H p states says means is) states).0
