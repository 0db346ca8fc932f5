use Rattle.std.proofs.Common.{◌≡◌, ◌≤◌, ◌^◌, [], ◌∷◌, refl, Some}
use Rattle.std.specs.Prelude.{ℕ, IsTrue}
use Rattle.std.proofs.lemmas.List.Elements.{All-nil, All-cons}
use Rattle.trees.specs.Judgements.{Context, WithName, trees}
use Rattle.trees.specs.Trees.{Tree, push}
use Rattle.trees.specs.Language.{Ty, Tm, IsFormula}
use Rattle.trees.specs.Things.{ATree, ASubst, AContext}
use Rattle.conditions.specs.Sides.{SideHolds, is_formula}
use Rattle.recipes.specs.Derivations.{StatesAt}
use Rattle.rules.specs.Table.{at, papp, pathp}
use Rattle.book.specs.Contents.{Contents}
use Rattle.book.specs.Shown.{book_means}
use Rattle.book.specs.declared.kernel.NodeId.{NodeId}
use Rattle.typing_rules.specs.Terms.{path_applied, path_applied_statement}
use Rattle.typed_nodes.specs.declared.types.Line.{Line}
use Rattle.typed_nodes.specs.Calls.{MayCall}
use Rattle.typed_nodes.specs.Typed.{Says, IsLine}
use Rattle.typed_nodes.proofs.HomeLaws.{retyped, typed_at, pathp_at_home, line_at}
use Rattle.typed_nodes.proofs.StandLaws.{may_call, given}
use Rattle.typed_nodes.proofs.CallLaws.{all_said}
use Rattle.typed_nodes.proofs.terms.path_at.Goals as goal

call : (book : Contents) (line : Line) (path : NodeId) (formula : ℕ) (H : Context) (A u v p r : Tree) (is : IsLine book line H A u v)
    → is.sub.shift ≤ 2 ^ 48
    → StatesAt path_applied_statement (ATree r ∷ AContext H ∷ ASubst is.sub ∷ AContext is.home ∷ ATree is.tree ∷ ATree is.start ∷ ATree is.end ∷ ATree p ∷ []) (path_applied trees r H is.sub is.home is.tree is.start is.end p)
    → Says book path (Tm H p (pathp trees A u v)) → book_means book formula ≡ Some (ATree r) → IsTrue (is_formula H r)
    → MayCall path_applied_statement book (formula ∷ []) (line.sub.0 ∷ line.ty.0 ∷ line.left.0 ∷ line.right.0 ∷ path.0 ∷ []) (ATree r ∷ AContext H ∷ ASubst is.sub ∷ AContext is.home ∷ ATree is.tree ∷ ATree is.start ∷ ATree is.end ∷ ATree p ∷ [])
call book line path formula H A u v p r is short states says means is_formula_of_H =
    may_call path_applied_statement book (formula ∷ []) (line.sub.0 ∷ line.ty.0 ∷ line.left.0 ∷ line.right.0 ∷ path.0 ∷ [])
    (ATree r ∷ AContext H ∷ ASubst is.sub ∷ AContext is.home ∷ ATree is.tree ∷ ATree is.start ∷ ATree is.end ∷ ATree p ∷ []) (path_applied trees r H is.sub is.home is.tree is.start is.end p)
    states refl (short, tt) (All-cons SideHolds (IsFormula H r) [] is_formula_of_H (All-nil SideHolds)) (all_said (book_means book) (formula ∷ []) (ATree r ∷ []) (means, tt))
    (is.sub_is, (is.line_is, (is.left_is, (is.right_is, (retyped H p (pathp_at_home is) says, tt)))))

pub derive_two-requires-clause-may : goal.derive_two-requires-clause-may
derive_two-requires-clause-may c =
    let (H, A, u, v, p, r, is, says, means, is_formula_of_H) = c.requires in
    let states = c.terms_at_trees.ensures.path_applied r H is.sub is.home is.tree is.start is.end p in
    let short = c.laws_of_shifts.ensures.shifts c.args.line.sub.0 H is.sub is.home is.sub_is in
    (path_applied_statement, ATree r ∷ AContext H ∷ ASubst is.sub ∷ AContext is.home ∷ ATree is.tree ∷ ATree is.start ∷ ATree is.end ∷ ATree p ∷ [], record { derives = c.terms_are_derived.ensures.path_applied; first = refl }, call c.args.book.now c.args.line c.args.path c.args.formula H A u v p r is short states says means is_formula_of_H)

pub returns-clause-typed : goal.returns-clause-typed
returns-clause-typed c = λ H A u v p r is says means is_formula_of_H.
    let states = c.terms_at_trees.ensures.path_applied r H is.sub is.home is.tree is.start is.end p in
    let short = c.laws_of_shifts.ensures.shifts c.args.line.sub.0 H is.sub is.home is.sub_is in
    let said = given c.derive_two.new.book (c.in_ok-term.term.0 ∷ c.in_ok-term.sub.0 ∷ []) (c.in_ok-term.ensures.gives path_applied_statement (record { derives = c.terms_are_derived.ensures.path_applied; first = refl }))
    (call c.args.book.now c.args.line c.args.path c.args.formula H A u v p r is short states says means is_formula_of_H) states in
    typed_at c.in_ok-term.term c.args.line.ty c.in_ok-term.sub H (papp trees p r) (at trees A r) (WithName is.home) is.tree (push is.sub r)
    (line_at is r) said.0
    (c.in_ok-term.ensures.extends.conclusions c.args.line.ty.0 (Ty (WithName is.home) is.tree) is.line_is) said.1.0
