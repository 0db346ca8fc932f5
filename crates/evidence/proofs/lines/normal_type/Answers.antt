use Rattle.std.proofs.Common.{◌≡◌, subst}
use Rattle.rows.specs.declared.views.TermId.{TermId}
use Rattle.side_conditions.specs.Contexts.{context_of}
use Rattle.book.specs.Shown.{book_means}
use Rattle.evidence.specs.contracts.sides.Sort.{the_type}
use Rattle.evidence.specs.declared.sides.Sort.TheVariants as sort
use Rattle.evidence.specs.Told.{IsNormalType}
use Rattle.evidence.proofs.LineLaws.{normal_type_is}
use Rattle.compare.proofs.OpenLaws.{not_false}
use Rattle.evidence.proofs.lines.normal_type.Goals as goal
use denote.Enum.Bare.{same_true}
use Rattle.std.proofs.Common.{rules}

pub is_normal_at-requires-clause-tree : goal.is_normal_at-requires-clause-tree
is_normal_at-requires-clause-tree c =
    let side = c.right_side.ensures c.in-Some.side c.in-Some.is in
    (side.tree, side.tree_is)

pub returns : goal.returns
returns c = λ right is.
    let side = c.right_side.ensures c.in-Some.side c.in-Some.is in
    let types : c.in-Some.side.sort ≡ sort.Types = same_true the_type (search rules) c.in-Some.side.sort sort.Types (not_false _ c.if-ne.ensures) in
    let at : c.in-Some.side.ctx ≡ c.args.place.now.ctx = search rules in
    let same : c.in-Some.side.right ≡ right = cc in
    subst (λ (row : TermId). IsNormalType c.args.book.now (context_of (book_means c.args.book.now c.args.place.now.ctx.0)) c.args.equation.0 row.0) same
    (normal_type_is c.args.book.now c.args.equation.0 c.in-Some.side c.args.place.now.ctx side types at (c.in_ok-is_normal_at.ensures c.if-not-branch.false))
