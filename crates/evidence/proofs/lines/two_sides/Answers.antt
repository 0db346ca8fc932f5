use Rattle.std.proofs.Common.{◌≡◌, rules, subst}
use denote.Enum.Bare.{same_true}
use Rattle.rows.specs.Views.{IsContext}
use Rattle.rows.specs.declared.views.CtxId.{CtxId}
use Rattle.rows.specs.declared.views.TermId.{TermId}
use Rattle.side_conditions.specs.Contexts.{context_of}
use Rattle.compare.proofs.OpenLaws.{not_false}
use Rattle.book.specs.Shown.{book_means}
use Rattle.evidence.specs.contracts.sides.Sort.{the_type}
use Rattle.evidence.specs.Told.{AreTwo}
use Rattle.evidence.proofs.LineLaws.{are_two, same_pair}
use Rattle.evidence.proofs.lines.two_sides.Goals as goal

pub same_context-requires-clause-left : goal.same_context-requires-clause-left
same_context-requires-clause-left c =
    let right = c.right_side-2.ensures c.in-Some-right_side.right c.in-Some-right_side.is in
    (right.context, right.context_is)

pub same_context-requires-clause-right : goal.same_context-requires-clause-right
same_context-requires-clause-right c =
    let left = c.right_side.ensures c.in-Some.left c.in-Some.is in
    let at : c.in-Some.left.ctx ≡ c.args.place.now.ctx = search rules in
    subst (λ (ctx : CtxId). IsContext (book_means c.args.book.now ctx.0)) at (left.context, left.context_is)

pub is_normal_at-requires-clause-tree : goal.is_normal_at-requires-clause-tree
is_normal_at-requires-clause-tree c =
    let left = c.right_side.ensures c.in-Some.left c.in-Some.is in
    (left.tree, left.tree_is)

pub is_normal_at-requires-2-clause-tree : goal.is_normal_at-requires-2-clause-tree
is_normal_at-requires-2-clause-tree c =
    let right = c.right_side-2.ensures c.in-Some-right_side.right c.in-Some-right_side.is in
    (right.tree, right.tree_is)

pub same_tree-requires-clause-left : goal.same_tree-requires-clause-left
same_tree-requires-clause-left c =
    let left = c.right_side.ensures c.in-Some.left c.in-Some.is in
    (left.tree, left.tree_is)

pub same_tree-requires-clause-right : goal.same_tree-requires-clause-right
same_tree-requires-clause-right c =
    let right = c.right_side-2.ensures c.in-Some-right_side.right c.in-Some-right_side.is in
    (right.tree, right.tree_is)

pub returns : goal.returns
returns c = λ l r is.
    let book = c.args.book.now in
    let G = context_of (book_means book c.args.place.now.ctx.0) in
    let left = c.right_side.ensures c.in-Some.left c.in-Some.is in
    let right = c.right_side-2.ensures c.in-Some-right_side.right c.in-Some-right_side.is in
    let sorts = same_true the_type (search rules) c.in-Some.left.sort c.in-Some-right_side.right.sort (not_false _ c.if-ne.ensures) in
    let at : c.in-Some.left.ctx ≡ c.args.place.now.ctx = search rules in
    let one : c.in-Some.left.right ≡ l = (same_pair c.in-Some.left.right c.in-Some-right_side.right.right l r is).0 in
    let other : c.in-Some-right_side.right.right ≡ r = (same_pair c.in-Some.left.right c.in-Some-right_side.right.right l r is).1 in
    subst (λ (row : TermId). AreTwo book G c.args.found.0 c.args.wanted.0 row.0 r.0) one
    (subst (λ (row : TermId). AreTwo book G c.args.found.0 c.args.wanted.0 c.in-Some.left.right.0 row.0) other
    (are_two book c.args.found.0 c.args.wanted.0 c.in-Some.left c.in-Some-right_side.right c.args.place.now.ctx c.in_ok-same_tree.field-0 left right sorts at
    (c.in_ok-same_context.ensures c.if-not-branch.false) (c.in_ok-is_normal_at.ensures c.if-not-branch-2.false) (c.in_ok-is_normal_at-2.ensures c.if-not-branch-3.false) c.in_ok-same_tree.ensures c.if-branch.false))
